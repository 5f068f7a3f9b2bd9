-- The rules of lists hold of what is built, and one that always lists the same breaks them. Assumes nothing.
use Rattle.std.specs.Prelude.{Result, Ok, Option, Some, None}
use mathlib.Core.Path.{◌≡◌, refl, sym, ap, ◌∙◌}
use mathlib.Core.Bool.{Bool, true, false}
use mathlib.Core.List.{List, [], ◌∷◌, ◌++◌}
use Prim.Native.Nat.{ℕ, zero, suc, ◌*◌, ◌≤◌, ◌<◌, zero-le}
use native.Mathlib.Omega.{arith}
use lib.ListN.{length, get_or}
use Rattle.paper.specs.Bits.{bit_of}
use Rattle.paper.specs.Count.{all, all_in}
use Rattle.paper.specs.Limits.{people_ok, slot_count_ok, number_of}
use Rattle.paper.proofs.Logic.{lt-or-ge}
use mathlib.Core.Logic.{⊎_elim}
use Rattle.slotset.specs.declared.SlotSet.{SlotSet}
use Rattle.slotset.specs.declared.NextRun.{NextRun}
use Rattle.slotset.specs.declared.Run.{Run}
use Rattle.slotset.specs.declared.Run.TheVariants.{Span}
use Rattle.slotset.specs.Slots.{slot}
use Rattle.slotset.specs.Runs.{Around, Ends, ends_of_runs, AreRuns}
use Rattle.slotset.specs.Answers.{length_row, sets_row, slots_of, row_slots, run_as, next_run_as}
use Rattle.slotset.proofs.Puts.{slot_lt}
use Rattle.runs.specs.Listed.{runs_row, all_runs_of}
use Rattle.slots.specs.Lent.{slot_room_ok, slots_ok, slot_ok_at, slot_ok, prev_end}
use Rattle.units.specs.declared.Settings.{Settings}
use Rattle.units.specs.Settings.{settings_ok, boundary_ok}
use Rattle.units.specs.Units.{units_ok, start_ok, unit_end}
use Rattle.units.specs.Answers.{Written}
use Rattle.units.specs.Starts.{every_begins, rotation_begins, unit_begins, rotation_starts, unit_starts, starts_row}
use Rattle.units.specs.Domains.{available, able, slot_domain, unit_domain, slot_domain_row, unit_domain_row, unit_domains_row}
use Rattle.promises.specs.Entries.{Component, built}
use Rattle.promises.specs.Marked.{in_words, words}
use Rattle.promises.specs.SetRules.{first_ahead, FrontOf}
use Rattle.promises.specs.UnitRules.{Listed, Lists}
use Rattle.promises.specs.ListRules.{ListsByRule, FixedList, fixed-rotations, fixed-units, fixed-slot-domain, fixed-unit-domain}
use Rattle.promises.specs.ListRules.{fixed-masks, fixed-run, fixed-next-run, fixed-all-runs}
use Rattle.promises.proofs.SetRules.{sets-by-rule}
use Rattle.promises.proofs.UnitRules.{units-by-rule}

-- ---- of what is built

run-built : (s : SlotSet) (i first last : ℕ) → number_of (length_row s.len) ≡ 0 → Around 1 (slots_of s) s.len i first last
    → built.run s i ≡ Ok (Span first last)
run-built s i first last e a =
    let r = sets-by-rule.run (slots_of s) (slot_lt s.words 0) s.len i in
    ap (λ (n : ℕ). run_as n (slots_of s) s.len i) e ∙ sym (r.only (Ok (Span first last)) a)

next-run-built : (s : SlotSet) (at : ℕ) (l : List Ends) → number_of (length_row s.len) ≡ 0 → AreRuns (slots_of s) s.len at l
    → built.next_run s at ≡ Ok (first_ahead l)
next-run-built s at l e a =
    ap (λ (n : ℕ). next_run_as n (slots_of s) s.len at) e ∙ sets-by-rule.next-run (slots_of s) (slot_lt s.words 0) s.len at l a

module _ (ws : List ℕ) (people person len : ℕ) (firsts lasts : List ℕ)
    (e : number_of (runs_row ws people person len (length firsts) (length lasts)) ≡ 0) (l : List Ends)
    (a : AreRuns (row_slots ws person) len 0 l) where
  all_are : l ≡ ends_of_runs (row_slots ws person) len
  all_are = (sets-by-rule.runs (row_slots ws person) (slot_lt ws (16 * person)) len).only l a

  abbrev Right : List Ends → Type 0
  Right l =
      let x = all_runs_of ws people person len firsts lasts in
      (x.answer ≡ Ok (length l)) × FrontOf (λ r. r.first) l firsts x.firsts × FrontOf (λ r. r.last) l lasts x.lasts

  all-runs-built : Right l
  all-runs-built = mathlib.Core.Path.subst Right (sym all_are) (sets-by-rule.all_runs ws people person len firsts lasts e)

pub lists-by-rule : ListsByRule built
lists-by-rule = record {
  rotations = λ s slots starts ends list e. (rotation_starts s slots starts, (units-by-rule.rotations s slots starts ends list e).0);
  units = λ s slots starts ends list e. (unit_starts s slots starts, (units-by-rule.units s slots starts ends list e).0);
  slot-domain = λ avail people slots k list e. (slot_domain avail people k, units-by-rule.slot-domain avail people slots k list e);
  unit-domain = λ avail people slots units begins u list e.
      (unit_domain avail people slots units begins u, units-by-rule.domain avail people slots units begins u list e);
  unit-domains = units-by-rule.domains;
  run = run-built;
  next-run = next-run-built;
  all_runs = all-runs-built;
}

-- ---- one that always lists the same

-- a list of what passes below 1 has one entry at most, and one below 2, where both pass, has two
short-list : (p : ℕ → Bool) (l : List ℕ) → Listed p 1 l → length l ≤ 1
short-list p l x =
    ⊎_elim (λ (h : 1 < length l). absurd (omega (arith, x.rises 0 h, (x.each 1 h).0))) (λ (h : length l ≤ 1). h) (lt-or-ge 1 (length l))

long-list : (p : ℕ → Bool) (l : List ℕ) → Listed p 2 l → p 0 ≡ true → p 1 ≡ true → 1 < length l
long-list p l x a b =
    let i = x.all 0 (omega arith) a in
    let j = x.all 1 (omega arith) b in
    ⊎_elim (λ (h : 1 < length l). h)
    (λ (h : length l ≤ 1).
    let z : i.0 ≡ j.0 = omega (arith, i.1, j.1, h) in
    absurd (omega (arith, sym i.2 ∙ ap (λ (k : ℕ). get_or l k 0) z ∙ j.2))) (lt-or-ge 1 (length l))

differ : (p q : ℕ → Bool) (l m x y : List ℕ) (v w : Written) (n : Result ℕ ℕ) → Lists p 1 l x v → Lists q 2 m y w → q 0 ≡ true → q 1 ≡ true
    → v.answer ≡ n → w.answer ≡ n → ⊥
differ p q l m x y v w n a b t u d e =
    let s : ◌≡◌ {A = Result ℕ ℕ} (Ok (length l)) (Ok (length m)) = sym a.number ∙ d ∙ sym e ∙ b.number in
    let z : length l ≡ length m = cc in
    omega (arith, z, short-list p l a.listed.meets, long-list q m b.listed.meets t u)

-- every slot a rotation and a unit: of one slot, and of two
abbrev each : Settings
each = record { fairness = 0; lock = 0; boundary = 0; edition = 0; value = 1; days = 1 }

one-accepted : number_of (starts_row each 1 (0 ∷ []) (60 ∷ []) (0 ∷ [])) ≡ 0
unfolding number_of starts_row slot_count_ok slot_room_ok settings_ok boundary_ok slots_ok all slot_ok_at slot_ok prev_end
one-accepted = refl

two-accepted : number_of (starts_row each 2 (0 ∷ 60 ∷ []) (60 ∷ 120 ∷ []) (0 ∷ 0 ∷ [])) ≡ 0
unfolding number_of starts_row slot_count_ok slot_room_ok settings_ok boundary_ok slots_ok all slot_ok_at slot_ok prev_end
two-accepted = refl

each-begins : (k : ℕ) → k < 2 → rotation_begins 0 1 (0 ∷ 60 ∷ []) k ≡ true
unfolding rotation_begins every_begins
each-begins zero h = refl
each-begins (suc zero) h = refl
each-begins (suc (suc k)) h = absurd (omega (arith, h))

-- the first person is available for the first slot, or isn't
there-able : able (words 1) 0 1 0 ≡ true
unfolding able all_in all available slot bit_of
there-able = refl

away-able : able (words 0) 0 1 0 ≡ false
unfolding able all_in all available slot bit_of
away-able = refl

-- the runs of one slot that is in the set, of one that isn't, and of two that are
abbrev full : Ends
full = record { first = 0; last = 0 }

there : (k : ℕ) → k < 1 → slot (words 1) 0 k ≡ 1
unfolding slot bit_of
there zero h = refl
there (suc k) h = absurd (omega (arith, h))

away : (k : ℕ) → k < 1 → slot (words 0) 0 k ≡ 1 → ⊥
unfolding slot bit_of
away zero h e = let z : ◌≡◌ {A = ℕ} 0 1 = e in omega arith
away (suc k) h e = omega (arith, h)

both-there : (k : ℕ) → k < 2 → slot (words 3) 0 k ≡ 1
unfolding slot bit_of
both-there zero h = refl
both-there (suc zero) h = refl
both-there (suc (suc k)) h = absurd (omega (arith, h))

no_run : AreRuns (slot (words 0) 0) 1 0 []
no_run k a b e = away k b e

one-run : AreRuns (slot (words 1) 0) 1 0 (full ∷ [])
one-run = (
  zero-le,
  zero-le,
  omega arith,
  λ k a b e. omega (arith, b),
  λ k a b. there k (omega (arith, b)),
  λ h. absurd (omega (arith, h)),
  λ k a b e. omega (arith, a, b),
)

around-one : Around 1 (slot (words 1) 0) 1 0 0 0
around-one = record {
  from = zero-le;
  to = zero-le;
  fits = omega arith;
  all = λ k a b. there k (omega (arith, b));
  left = λ h. absurd (omega (arith, h));
  right = λ h. absurd (omega (arith, h));
}

around-two : Around 1 (slot (words 3) 0) 2 1 0 1
around-two = record {
  from = zero-le;
  to = omega arith;
  fits = omega arith;
  all = λ k a b. both-there k (omega (arith, b));
  left = λ h. absurd (omega (arith, h));
  right = λ h. absurd (omega (arith, h));
}

module _ (C : Component) (L : ListsByRule C) where
  rotations-fall : (n : Result ℕ ℕ)
      → ((s : Settings) (slots : ℕ) (starts ends list : List ℕ) → number_of (starts_row s slots starts ends list) ≡ 0
      → (C.rotations s slots starts ends list).answer ≡ n) → ⊥
  rotations-fall n f =
      let a = L.rotations each 1 (0 ∷ []) (60 ∷ []) (0 ∷ []) one-accepted in
      let b = L.rotations each 2 (0 ∷ 60 ∷ []) (60 ∷ 120 ∷ []) (0 ∷ 0 ∷ []) two-accepted in
      differ _ _ a.0 b.0 _ _ _ _ n a.1 b.1 (each-begins 0 (omega arith)) (each-begins 1 (omega arith))
      (f _ _ _ _ _ one-accepted) (f _ _ _ _ _ two-accepted)

  units-fall : (n : Result ℕ ℕ)
      → ((s : Settings) (slots : ℕ) (starts ends list : List ℕ) → number_of (starts_row s slots starts ends list) ≡ 0
      → (C.unit_starts s slots starts ends list).answer ≡ n) → ⊥
  unfolding unit_begins
  units-fall n f =
      let a = L.units each 1 (0 ∷ []) (60 ∷ []) (0 ∷ []) one-accepted in
      let b = L.units each 2 (0 ∷ 60 ∷ []) (60 ∷ 120 ∷ []) (0 ∷ 0 ∷ []) two-accepted in
      differ _ _ a.0 b.0 _ _ _ _ n a.1 b.1 refl refl (f _ _ _ _ _ one-accepted) (f _ _ _ _ _ two-accepted)

  slot-domain-falls : (n : Result ℕ ℕ)
      → ((avail : List ℕ) (people slots k : ℕ) (list : List ℕ) → number_of (slot_domain_row avail people slots k list) ≡ 0
      → (C.slot_domain avail people slots k list).answer ≡ n) → ⊥
  unfolding number_of slot_domain_row people_ok slot_count_ok available slot bit_of
  slot-domain-falls n f =
      let a = L.slot-domain (words 1) 1 1 0 (0 ∷ []) refl in
      let b = L.slot-domain (words 1 ++ words 1) 2 1 0 (0 ∷ 0 ∷ []) refl in
      differ _ _ a.0 b.0 _ _ _ _ n a.1 b.1 refl refl (f _ _ _ _ _ refl) (f _ _ _ _ _ refl)

  unit-domain-falls : (n : Result ℕ ℕ)
      → ((avail : List ℕ) (people slots units : ℕ) (begins : List ℕ) (u : ℕ) (list : List ℕ)
      → number_of (unit_domain_row avail people slots units begins u list) ≡ 0
      → (C.unit_domain avail people slots units begins u list).answer ≡ n) → ⊥
  unfolding number_of unit_domain_row people_ok slot_count_ok units_ok start_ok all all_in able available unit_end slot bit_of
  unit-domain-falls n f =
      let a = L.unit-domain (words 1) 1 1 1 (0 ∷ []) 0 (0 ∷ []) refl in
      let b = L.unit-domain (words 1 ++ words 1) 2 1 1 (0 ∷ []) 0 (0 ∷ 0 ∷ []) refl in
      differ _ _ a.0 b.0 _ _ _ _ n a.1 b.1 refl refl (f _ _ _ _ _ _ _ refl) (f _ _ _ _ _ _ _ refl)

  -- one person, who is available for the one slot or isn't
  masks-fall : (m : ℕ)
      → ((avail : List ℕ) (people slots units : ℕ) (begins masks : List ℕ)
      → number_of (unit_domains_row avail people slots units begins masks) ≡ 0
      → get_or (C.unit_domains avail people slots units begins masks) 0 0 ≡ m) → ⊥
  unfolding number_of unit_domains_row people_ok slot_count_ok units_ok start_ok all unit_end
  masks-fall m f =
      let there = (L.unit-domains (words 1) 1 1 1 (0 ∷ []) (0 ∷ []) refl).0 0 0 (omega arith) in
      let away = (L.unit-domains (words 0) 1 1 1 (0 ∷ []) (0 ∷ []) refl).0 0 0 (omega arith) in
      let same = f (words 1) 1 1 1 (0 ∷ []) (0 ∷ []) refl ∙ sym (f (words 0) 1 1 1 (0 ∷ []) (0 ∷ []) refl) in
      let bit = there.1 (omega arith, there-able) in
      mathlib.Core.Bool.true≢false (sym (away.0 (ap (λ (x : ℕ). bit_of x 0) (sym same) ∙ bit)).1 ∙ away-able)

  -- the empty set of one slot, and the full one
  run-falls : (x : Result Run ℕ) → ((s : SlotSet) (i : ℕ) → number_of (length_row s.len) ≡ 0 → C.run s i ≡ x) → ⊥
  unfolding number_of length_row
  run-falls x f =
      let a = L.run (in_words 1 (words 1)) 0 0 0 refl around-one in
      let b = L.run (in_words 2 (words 3)) 1 0 1 refl around-two in
      let q : ◌≡◌ {A = Result Run ℕ} (Ok (Span 0 0)) (Ok (Span 0 1)) = sym a ∙ f _ _ refl ∙ sym (f _ _ refl) ∙ b in
      let z : ◌≡◌ {A = ℕ} 0 1 = cc in omega arith

  next-run-falls : (x : Result (Option NextRun) ℕ) → ((s : SlotSet) (at : ℕ) → number_of (length_row s.len) ≡ 0 → C.next_run s at ≡ x) → ⊥
  unfolding number_of length_row
  next-run-falls x f =
      let a = L.next-run (in_words 1 (words 1)) 0 (full ∷ []) refl one-run in
      let b = L.next-run (in_words 1 (words 0)) 0 [] refl no_run in
      let q : ◌≡◌ {A = Result (Option NextRun) ℕ} (Ok (Some (record { first = 0; last = 0; next = record { at = 1 } }))) (Ok None) = sym a ∙ f _ _ refl ∙ sym (f _ _ refl) ∙ b in
      let z : ◌≡◌ {A = ℕ} 0 1 = cc in omega arith

  all-runs-fall : (n : Result ℕ ℕ)
      → ((ws : List ℕ) (people person len : ℕ) (firsts lasts : List ℕ)
      → number_of (runs_row ws people person len (length firsts) (length lasts)) ≡ 0
      → (C.all_runs ws people person len firsts lasts).answer ≡ n) → ⊥
  unfolding number_of runs_row sets_row people_ok
  all-runs-fall n f =
      let a = L.all_runs (words 1) 1 0 1 (0 ∷ []) (0 ∷ []) refl (full ∷ []) one-run in
      let b = L.all_runs (words 0) 1 0 1 (0 ∷ []) (0 ∷ []) refl [] no_run in
      let q : ◌≡◌ {A = Result ℕ ℕ} (Ok 1) (Ok 0) = sym a.0 ∙ f _ _ _ _ _ _ refl ∙ sym (f _ _ _ _ _ _ refl) ∙ b.0 in
      let z : ◌≡◌ {A = ℕ} 1 0 = cc in omega arith

  pub fixed-list-falls : FixedList C → ⊥
  fixed-list-falls (fixed-rotations n f) = rotations-fall n f
  fixed-list-falls (fixed-units n f) = units-fall n f
  fixed-list-falls (fixed-slot-domain n f) = slot-domain-falls n f
  fixed-list-falls (fixed-unit-domain n f) = unit-domain-falls n f
  fixed-list-falls (fixed-masks m f) = masks-fall m f
  fixed-list-falls (fixed-run x f) = run-falls x f
  fixed-list-falls (fixed-next-run x f) = next-run-falls x f
  fixed-list-falls (fixed-all-runs n f) = all-runs-fall n f
