-- A rota made elsewhere: the verdict, shifts, refusals, and that what may be used can be taken over. Assumes nothing.
use Rattle.std.specs.Prelude.{Result, Ok, Err}
use mathlib.Core.Path.{◌≡◌, refl, sym, ap, ◌∙◌, subst}
use mathlib.Core.Bool.{Bool, true, cond}
use mathlib.Core.List.{List}
use mathlib.Core.Logic.{⊎_elim, ◌↔◌}
use Prim.Native.Nat.{ℕ, ◌+◌, ◌-◌, ◌*◌, ◌≤◌, ◌<◌}
use native.Mathlib.Omega.{arith}
use borrow.Author.Tests.{ne_eqb, eqb-true, le-leb, leb-true, lt-ltb, le-ltb}
use lib.Dec.{eqb, leb, ltb}
use lib.ListN.{length, get_or}
use Rattle.paper.specs.Limits.{nobody, last_minute, people_ok, slot_count_ok, number_of}
use Rattle.paper.specs.Rows.{unless, answer_as, answer_refusal}
use Rattle.paper.specs.Count.{all}
use Rattle.paper.specs.Bits.{bit_of}
use Rattle.paper.proofs.Logic.{by_cond, lt-or-ge, both, three, and-true}
use Rattle.paper.proofs.Count.{all-each, each_all}
use Rattle.paper.proofs.Rows.{all_pass}
use Rattle.slotset.specs.Slots.{slot}
use Rattle.slotset.proofs.Refusals.{answer-said}
use Rattle.slotset.specs.Search.{up, down, next_with, last_below}
use Rattle.slots.specs.Lent.{slot_room_ok, slots_ok, slot_ok_at, slot_ok, prev_end}
use Rattle.slots.proofs.LentLaws.{slots-sound}
use Rattle.units.specs.Units.{units_ok, start_ok, unit_start, unit_of, InUnit}
use Rattle.units.specs.Domains.{available, unfrozen}
use Rattle.units.proofs.Units.{unit-of-only, unit-within}
use Rattle.owners.specs.Derived.{Derived, held, known_by}
use Rattle.owners.specs.Recount.{first_fail, known_at, available_at, available_for}
use Rattle.owners.specs.Entries.{lent_row, from_slots_row, from_slots, outcome}
use Rattle.owners.proofs.Sets.{held-own, held-not}
use Rattle.usable.specs.declared.Verdict.{Verdict}
use Rattle.usable.specs.declared.Verdict.TheVariants as verdict
use Rattle.usable.specs.Rules.{allowed_at, published_at, uniform_at, opens_at, closes_at, capped_at, rested_at, shift_first, shift_last}
use Rattle.usable.specs.Broken.{Brought, slots_of, owner_of, Shift, TooClose, Means}
use Rattle.usable.specs.Answers.{figures_ok, usable_row, or_broken, judged, verdict_is}
use Rattle.usable.proofs.ShiftLaws.{held_one, held-zero, around-each, shift-around}
use Rattle.usable.proofs.Rested.{LastOf, free-is, ends-rise, last-closes}
use Rattle.usable.proofs.Judged.{Right, row-right, judged-when, judged-holds}
use Rattle.usable.proofs.Meaning.{judged-means, means-one, shift-owner, shift-ends, shift-below, opens, close_of}
use Rattle.boltraven_c.specs.Usable.{verdict_number, verdict_slot}
use Rattle.promises.specs.Table.{GivenByTests}
use Rattle.promises.specs.SetRules.{TheOne}
use Rattle.promises.specs.RotaRules.{PassesRecount}
use Rattle.promises.specs.UsableRule.{CapAndRest, usable_table, Owns, IsShift, NextTooClose, read_verdict, both_hers, UsableByRule}
use Rattle.promises.proofs.Table.{given-as}
use Rattle.promises.proofs.Tables.{First, by_first, none, say-broken, say-short, people-says, slots-says, columns-say, right-says}
use Rattle.promises.proofs.Tables.{units-right}
use Rattle.promises.proofs.RotaRules.{rota-by-rule}

-- ---- what is refused

figures-say : (cap rest : ℕ) → (figures_ok cap rest ≡ true) ↔ CapAndRest cap rest
unfolding figures_ok
figures-say cap rest = (
  λ e.
      let x = three (leb 1 cap) (leb cap last_minute) (leb rest last_minute) e in
      record { some = leb-true 1 cap x.0; cap = leb-true cap last_minute x.1; rest = leb-true rest last_minute x.2 },
  λ R.
      and-true _ _ (le-leb 1 cap R.some) (and-true _ _ (le-leb cap last_minute R.cap) (le-leb rest last_minute R.rest)),
)

number-said : (B : Brought) → answer_refusal (verdict_is B) ≡ number_of (usable_row B)
unfolding verdict_is
number-said B = answer-said (number_of (usable_row B)) (judged B)

refuses : (B : Brought) → GivenByTests (usable_row B) (answer_refusal (verdict_is B))
unfolding usable_row
refuses B = given-as (usable_row B) _ refl (number-said B)

usable-first : (B : Brought) → First (usable_table B) (number_of (usable_row B))
unfolding number_of usable_row
usable-first B =
    people-says B.plan.people (slots-says (slots_of B) (columns-say (slots_of B) B.plan.starts B.plan.ends (λ r.
    say-short (16 * B.plan.people) (length B.avail) (λ a.
    say-short B.units (length B.begins) (λ q.
    say-short 16 (length B.frozen) (λ f.
    say-short (slots_of B) (length B.published) (λ p.
    say-short (slots_of B) (length B.owners) (λ o.
    say-broken 7 (CapAndRest B.cap B.rest) (figures_ok B.cap B.rest) (figures-say B.cap B.rest) (λ g.
    right-says 9 (slots_of B) B.plan.starts B.plan.ends r (units-right (slots_of B) B.units B.begins q none))))))))))

-- ---- the verdict

module _ (B : Brought) (z : number_of (usable_row B) ≡ 0) where
  answered : verdict_is B ≡ Ok (judged B)
  answered = sym (judged-when B _ refl z)

  the_one : (v : Verdict) × (verdict_is B ≡ Ok v) × TheOne (Means B) v
  the_one =
      let m = judged-means B z in
      (judged B, answered, record { meets = m; only = λ v k. means-one B v (judged B) k m })

  means-it : (v : Verdict) → (verdict_is B ≡ Ok v) ↔ Means B v
  means-it v = (
    λ e.
        let q : Ok (judged B) ≡ Ok v = sym answered ∙ e in
        let r : judged B ≡ v = cc in
        subst (Means B) r (judged-means B z),
    λ m. answered ∙ ap Ok (means-one B (judged B) v (judged-means B z) m),
  )

-- ---- shifts

module _ (B : Brought) (w first last : ℕ) where
  whole-left : Shift B w first last → (a b : ℕ) → a ≤ first → last ≤ b → Owns B w a b → a ≡ first
  whole-left S a b h g f =
      ⊎_elim
      (λ (l : a < first).
      absurd (held-zero B.owners w (first - 1) (S.run.left (omega arith)) (f (first - 1) (omega arith) (omega (arith, S.run.to)))))
      (λ (l : first ≤ a). omega arith) (lt-or-ge a first)

  whole-right : Shift B w first last → (a b : ℕ) → a ≤ first → last ≤ b → b < slots_of B → Owns B w a b → b ≡ last
  whole-right S a b h g c f =
      ⊎_elim
      (λ (l : last < b).
      absurd (held-zero B.owners w (last + 1) (S.run.right (omega arith)) (f (last + 1) (omega (arith, S.run.to)) (omega arith))))
      (λ (l : b ≤ last). omega arith) (lt-or-ge last b)

  shift_is : Shift B w first last → IsShift B w first last
  shift_is S =
      record {
        somebody = S.somebody;
        some = S.run.to;
        below = S.run.fits;
        owns = λ k a b. held_one B.owners w k (S.run.all k a b);
        whole = λ a b h g c f. (whole-left S a b h g f, whole-right S a b h g c f);
      }

  is-shift : IsShift B w first last → Shift B w first last
  is-shift I =
      record {
        somebody = I.somebody;
        run = record {
          from = omega arith;
          to = I.some;
          fits = I.below;
          all = λ k a b. held-own B.owners w k (I.owns k a b);
          left = λ h. held-not B.owners w (first - 1) (λ q.
              let x = I.whole (first - 1) last (omega arith) (omega arith) I.below (λ k a b.
              ⊎_elim (λ (l : k < first). let e : k ≡ first - 1 = omega arith in ap (owner_of B) e ∙ q) (λ (l : first ≤ k). I.owns k l b)
              (lt-or-ge k first)) in
              absurd (omega (arith, x.0)));
          right = λ h. held-not B.owners w (last + 1) (λ q.
              let x = I.whole first (last + 1) (omega arith) (omega arith) h (λ k a b.
              ⊎_elim (λ (l : last < k). let e : k ≡ last + 1 = omega arith in ap (owner_of B) e ∙ q) (λ (l : k ≤ last). I.owns k a l)
              (lt-or-ge last k)) in
              absurd (omega (arith, x.1)));
        };
      }

in_one : (B : Brought) (k : ℕ) → k < slots_of B → (owner_of B k ≡ nobody → ⊥)
    → (a b : ℕ) × Shift B (owner_of B k) a b × (a ≤ k) × (k ≤ b)
    × ((c d : ℕ) → Shift B (owner_of B k) c d → c ≤ k → k ≤ d → (c ≡ a) × (d ≡ b))
in_one B k h n =
    let A = shift-around (slots_of B) B.owners k h in
    let a = shift_first (slots_of B) B.owners k in
    let b = shift_last (slots_of B) B.owners k in (
      a,
      b,
      record {
        somebody = n;
        run = around-each 1 (held B.owners (owner_of B k)) (slots_of B) k a a b A (omega arith) (omega (arith, A.from, A.to));
      },
      A.from,
      A.to,
      λ c d S x y. let e = shift-ends B (owner_of B k) c d S k x y in (sym e.0, sym e.1),
    )

-- ---- neighbouring shifts suffice

module _ (B : Brought) (z : number_of (usable_row B) ≡ 0) (k : ℕ) (b : TooClose B k) where
  abbrev starts : List ℕ
  starts = B.plan.starts

  abbrev ends : List ℕ
  ends = B.plan.ends

  later-owner : owner_of B k ≡ b.who
  later-owner = shift-owner B b.who k b.end b.later k (omega arith) b.later.run.to

  earlier-owner : owner_of B b.last ≡ b.who
  earlier-owner = shift-owner B b.who b.first b.last b.earlier b.last b.earlier.run.to (omega arith)

  below : k < slots_of B
  below = shift-below B b.who k b.end b.later k (omega arith) b.later.run.to

  from_last : (j : ℕ) → LastOf B.owners k (owner_of B k) j → NextTooClose B k
  unfolding closes_at
  from_last j L =
      let S = slots-sound (slots_of B) starts ends (row-right B z).lent in
      let t = opens B b.who k b.end b.later in
      let e = last-closes (slots_of B) B.rest starts ends B.owners S k below t j L in
      let i : b.last ≤ j = ⊎_elim
      (λ (x : j < b.last). absurd (L.none b.last x b.before (earlier-owner ∙ sym later-owner)))
      (λ (x : b.last ≤ j). x) (lt-or-ge j b.last) in
      let m = ends-rise (slots_of B) starts ends S b.last j i (omega (arith, L.below, below)) in
      let T = close_of B k below t j L.below L.owner (eqb-true _ _ e) (omega (arith, m, b.closer)) in
      record { close = T.0; next = λ i a c q. L.none i (omega (arith, T.1, a)) c (q ∙ T.2) }

  next-close : NextTooClose B k
  next-close =
      ⊎_elim
      (λ (x : ((j : ℕ) → j < k → get_or B.owners j 0 ≡ owner_of B k → ⊥) × _).
      absurd (x.0 b.last b.before (earlier-owner ∙ sym later-owner)))
      (λ (x : (j : ℕ) × LastOf B.owners k (owner_of B k) j × _). from_last x.0 x.1)
      (free-is B.rest ends B.owners k (owner_of B k))

-- ---- taken over

module _ (B : Brought) (D : Derived) (z : number_of (usable_row B) ≡ 0) (u : verdict_is B ≡ Ok verdict.Usable)
    (s : 16 * B.plan.people ≤ length D.sets) (m : B.plan.people ≤ length D.minutes)
    (t : 2 ≤ length D.totals) where
  right : Right B
  right = row-right B z

  hold : (all (slots_of B) (allowed_at B.plan.people B.avail B.owners) ≡ true)
      × (all (slots_of B) (uniform_at B.units B.begins B.owners) ≡ true)
  hold =
      let q : Ok (judged B) ≡ Ok verdict.Usable = sym (answered B z) ∙ u in
      let r : judged B ≡ verdict.Usable = cc in
      judged-holds B r

  each : (k : ℕ) → k < slots_of B → (known_at B.plan.people B.owners k ≡ true) × (available_at B.avail B.owners k ≡ true)
  unfolding allowed_at
  each k h =
      both (known_at B.plan.people B.owners k) (available_at B.avail B.owners k)
      (all-each (slots_of B) (allowed_at B.plan.people B.avail B.owners) hold.0 k h)

  accepted : (from_slots B.plan B.avail B.owners D).refusal.number ≡ 0
  unfolding from_slots outcome from_slots_row lent_row
  accepted =
      all_pass (from_slots_row B.plan B.avail B.owners D) (
        right.people,
        (
          right.count,
          (
            refl,
            (
              right.room,
              (
                right.avail-room,
                (
                  right.owners-room,
                  (
                    le-leb _ _ s,
                    (
                      le-leb _ _ m,
                      (
                        le-leb _ _ t,
                        (
                          refl,
                          (
                            right.lent,
                            (
                              each_all (slots_of B) (known_at B.plan.people B.owners) (λ k h. (each k h).0),
                              (each_all (slots_of B) (available_at B.avail B.owners) (λ k h. (each k h).1), tt),
                            ),
                          ),
                        ),
                      ),
                    ),
                  ),
                ),
              ),
            ),
          ),
        ),
      )

  even : (v k : ℕ) → InUnit (slots_of B) B.units B.begins k v → owner_of B k ≡ owner_of B (unit_start B.begins v)
  unfolding uniform_at
  even v k I =
      let h : k < slots_of B = omega (arith, I.to, unit-within (slots_of B) B.units B.begins right.units v I.known) in
      eqb-true _ _ (all-each (slots_of B) (uniform_at B.units B.begins B.owners) hold.1 k h)
      ∙ ap (λ (x : ℕ). owner_of B (unit_start B.begins x)) (unit-of-only (slots_of B) B.units B.begins right.units k v I)

  taken-over : let y = from_slots B.plan B.avail B.owners D in
      (y.refusal.number ≡ 0) × PassesRecount B.plan B.avail B.units B.begins y.owners y.derived
  taken-over =
      let M = rota-by-rule.from-slots B.plan B.avail B.owners D accepted in
      let R = M.1.recount in (
        accepted,
        record {
          known = R.known;
          available = R.available;
          uniform = λ v k I.
              ap (λ (l : List ℕ). get_or l k 0) M.0 ∙ even v k I
              ∙ sym (ap (λ (l : List ℕ). get_or l (unit_start B.begins v) 0) M.0);
          sets = R.sets;
          minutes = R.minutes;
          uncovered = R.uncovered;
          unassigned = R.unassigned;
        },
      )

-- ---- in C

-- what a caller can tell apart: a rule has a number from 1 on, below 65,536
abbrev Told : Verdict → Type 0
Told verdict.Usable = Unit
Told (verdict.Broken n k) = (0 < n) × (n < 65536)

read_as : (was : ℕ) (v : Verdict) → Told v → read_verdict (verdict_number (Ok v)) (verdict_slot was (Ok v)) ≡ Ok v
read_as was verdict.Usable t = refl
read_as was (verdict.Broken n k) t =
    ap (λ (b : Bool). cond b (Ok verdict.Usable) (cond (ltb n 65536) (Ok (verdict.Broken n k)) (Err (n - 65536))))
    (ne_eqb n 0 (λ e. omega (arith, e, t.0)))
    ∙ ap (λ (b : Bool). cond b (Ok (verdict.Broken n k)) (Err (n - 65536))) (lt-ltb n 65536 t.1)

refused_as : (was n : ℕ) → read_verdict (65536 + n) was ≡ Err n
refused_as was n =
    let e : 65536 + n - 65536 ≡ n = omega arith in
    ap (λ (b : Bool). cond b (Ok verdict.Usable) (cond (ltb (65536 + n) 65536) (Ok (verdict.Broken (65536 + n) was)) (Err (65536 + n - 65536))))
    (ne_eqb (65536 + n) 0 (λ e. omega (arith, e)))
    ∙ ap (λ (b : Bool). cond b (Ok (verdict.Broken (65536 + n) was)) (Err (65536 + n - 65536))) (le-ltb (65536 + n) 65536 (omega arith))
    ∙ ap Err e

told-or : (slots n : ℕ) (p : ℕ → Bool) (v : Verdict) → 0 < n → n < 65536 → Told v → Told (or_broken slots n p v)
unfolding or_broken
told-or slots n p v a b t = by_cond (all slots p) v (verdict.Broken n (first_fail slots p)) Told (λ e. t) (λ e. (a, b))

told-judged : (B : Brought) → Told (judged B)
unfolding judged
told-judged B =
    told-or _ 1 _ _ (omega arith) (omega arith) (told-or _ 2 _ _ (omega arith) (omega arith) (told-or _ 3 _ _ (omega arith) (omega arith)
    (told-or _ 4 _ _ (omega arith) (omega arith) (told-or _ 5 _ verdict.Usable (omega arith) (omega arith) tt))))

reads-as : (B : Brought) (was : ℕ) → read_verdict (verdict_number (verdict_is B)) (verdict_slot was (verdict_is B)) ≡ verdict_is B
unfolding verdict_is answer_as unless
reads-as B was =
    by_cond (eqb (number_of (usable_row B)) 0) (Ok (judged B)) (Err (number_of (usable_row B)))
    (λ (r : Result Verdict ℕ). read_verdict (verdict_number r) (verdict_slot was r) ≡ r)
    (λ e. read_as was (judged B) (told-judged B)) (λ e. refused_as was (number_of (usable_row B)))

-- ---- all of it

both-pass : verdict_is (both_hers 120 1) ≡ Ok verdict.Usable
unfolding verdict_is usable_row answer_as unless number_of figures_ok people_ok slot_count_ok slot_room_ok slots_ok all slot_ok_at slot_ok prev_end
    units_ok start_ok
    judged or_broken allowed_at known_at available_at known_by available_for available slot bit_of published_at unfrozen uniform_at unit_of opens_at
    closes_at held capped_at rested_at first_fail next_with last_below up down
both-pass = refl

both_long : verdict_is (both_hers 119 1) ≡ Ok (verdict.Broken 4 0)
unfolding verdict_is usable_row answer_as unless number_of figures_ok people_ok slot_count_ok slot_room_ok slots_ok all slot_ok_at slot_ok prev_end
    units_ok start_ok
    judged or_broken allowed_at known_at available_at known_by available_for available slot bit_of published_at unfrozen uniform_at unit_of opens_at
    closes_at held capped_at rested_at first_fail next_with last_below up down
both_long = refl

pub usable-by-rule : UsableByRule
unfolding usable_row
usable-by-rule = record {
  refuses = refuses;
  by-table = λ B. by_first (usable_table B) (usable_row B) _ refl refl (refuses B) (usable-first B);
  figures = figures-say;
  judged = the_one;
  usable = λ B z. means-it B z verdict.Usable;
  broken = λ B z n k. means-it B z (verdict.Broken n k);
  shift = λ B w a b. (shift_is B w a b, is-shift B w a b);
  in_shift = in_one;
  neighbours = next-close;
  taken-over = taken-over;
  reads = reads-as;
  passes = both-pass;
  too_long = both_long;
}
