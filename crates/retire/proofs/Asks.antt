-- What the tests of retiring say, and how they come together. Assumes nothing.
use mathlib.Core.Path.{◌≡◌, refl, sym, ap, ◌∙◌}
use mathlib.Core.Bool.{Bool, true, false, ◌&&◌, ◌||◌, not, cond}
use mathlib.Core.List.{List, [], ◌∷◌, ◌++◌}
use Prim.Native.Nat.{ℕ, ◌+◌, ◌-◌, ◌*◌, ◌≤◌, ◌<◌}
use native.Mathlib.Omega.{arith}
use borrow.Author.Tests.{leb-true, ltb-true, le-leb, lt-leb, eq-eqb, ne_eqb, lt-ltb}
use lib.Dec.{eqb, leb, ltb}
use lib.ListN.{length}
use Rattle.paper.specs.Limits.{people_ok, slot_count_ok, slots_most, ranges_most, Test, test, number_of}
use Rattle.paper.specs.declared.Refusal.{Refusal}
use Rattle.paper.specs.Rows.{refusal_of, next}
use Rattle.paper.proofs.Logic.{by-test, both, and-true, slot-count-says}
use Rattle.paper.proofs.Rows.{passed, all_pass, said, Checked, link, ends, renamed, checked-more, next-fail, next-kept}
use Rattle.slots.specs.Lent.{slot_room_ok, slots_ok}
use Rattle.slots.specs.Ranges.{range_count_ok, range_room_ok, ranges_ok}
use Rattle.slots.proofs.LentLaws.{room_says}
use Rattle.units.specs.Units.{units_ok}
use Rattle.owners.specs.Recount.{recounts}
use Rattle.owners.specs.Entries.{lent_row, recount_row}
use Rattle.owners.proofs.RecountRefusals.{first_on, first_stops}
use Rattle.owners.proofs.Entered.{recount-number}
use Rattle.units.specs.Units.{unit_start}
use Rattle.units.proofs.Units.{starts-below}
use Rattle.owners.specs.Derived.{plan, worked, uncovered}
use Rattle.slots.specs.Atomic.{is_cut, atom_starts}
use Rattle.paper.specs.Count.{all}
use Rattle.paper.specs.Limits.{last_minute}
use Rattle.paper.proofs.Logic.{by_cond}
use Rattle.retire.specs.Rolled.{entry}
use Rattle.retire.specs.Going.{start_from, gone_slots, prior_then, retired_then}
use Rattle.retire.specs.New.{New, new_starts}
use Rattle.retire.specs.Outcome.{Held, plan_of, units_gone, slots_gone, slots_kept, slots_then, asked_row, new_row, held_row, retire_row, sound, whole}
use Rattle.retire.specs.Outcome.{comes_after, figures_ok, figures_then_ok}
use Rattle.units.specs.Settings.{settings_ok}
use Rattle.retire.specs.Inside.{NewRight}

-- ---- 1 and 2, passed

-- what the recount asks of 1 and 2
abbrev recount_front : Held → List Test
recount_front H =
    test 1 (people_ok H.people) ∷ test 1 (slot_count_ok H.slots) ∷ test 1 true
    ∷ test 2 (slot_room_ok H.slots H.lent.starts H.lent.ends) ∷ test 2 (leb (16 * H.people) (length H.lent.avail))
    ∷ test 2 (leb H.slots (length H.lent.owners)) ∷ test 2 (leb (16 * H.people) (length H.lent.derived.sets))
    ∷ test 2 (leb H.people (length H.lent.derived.minutes)) ∷ test 2 (leb 2 (length H.lent.derived.totals)) ∷ test 2 true ∷ []

pub record AskedRight (H : Held) (N : New) : Type 0 where
  pub people-ok : people_ok H.people ≡ true
  pub count-ok : slot_count_ok H.slots ≡ true
  pub base-few : N.count ≤ 1024
  pub ranges-few : N.ranges.count ≤ ranges_most
  pub starts-room : 1024 ≤ length H.lent.starts
  pub ends-room : 1024 ≤ length H.lent.ends
  pub avail-room : 16 * H.people ≤ length H.lent.avail
  pub begins-room : 1024 ≤ length H.lent.begins
  pub frozen-room : 16 ≤ length H.lent.frozen
  pub owners-room : 1024 ≤ length H.lent.owners
  pub sets-room : 16 * H.people ≤ length H.lent.derived.sets
  pub minutes-room : H.people ≤ length H.lent.derived.minutes
  pub totals-room : 2 ≤ length H.lent.derived.totals
  pub priors-room : H.people ≤ length H.lent.priors
  pub retired-room : 1 ≤ length H.lent.retired
  pub new-room : slot_room_ok N.count N.starts N.ends ≡ true
  pub ranges-room : range_room_ok N.ranges ≡ true

module _ (H : Held) (N : New) where
  pub asked-says : number_of (asked_row H N) ≡ 0 → AskedRight H N
  unfolding asked_row range_count_ok
  asked-says z =
      let h = passed (asked_row H N) refl z in
      let r = room_says 1024 H.lent.starts H.lent.ends (h 4) in
      record {
        people-ok = h 0;
        count-ok = h 1;
        base-few = leb-true _ _ (h 2);
        ranges-few = leb-true _ _ (h 3);
        starts-room = r.0;
        ends-room = r.1;
        avail-room = leb-true _ _ (h 5);
        begins-room = leb-true _ _ (h 6);
        frozen-room = leb-true _ _ (h 8);
        owners-room = leb-true _ _ (h 9);
        sets-room = leb-true _ _ (h 10);
        minutes-room = leb-true _ _ (h 11);
        totals-room = leb-true _ _ (h 12);
        priors-room = leb-true _ _ (h 13);
        retired-room = leb-true _ _ (h 14);
        new-room = h 15;
        ranges-room = h 16;
      }

  -- then the recount asks 9 and 10 alone
  front-passes : AskedRight H N → number_of (recount_front H) ≡ 0
  unfolding slot_room_ok
  front-passes A =
      let few = (slot-count-says H.slots A.count-ok).1 in
      all_pass (recount_front H) (
        A.people-ok,
        (
          A.count-ok,
          (
            refl,
            (
              and-true _ _ (le-leb H.slots (length H.lent.starts) (omega (arith, A.starts-room)))
                  (le-leb H.slots (length H.lent.ends) (omega (arith, A.ends-room))),
              (
                le-leb _ _ A.avail-room,
                (
                  le-leb H.slots (length H.lent.owners) (omega (arith, A.owners-room)),
                  (le-leb _ _ A.sets-room, (le-leb _ _ A.minutes-room, (le-leb _ _ A.totals-room, (refl, tt)))),
                ),
              ),
            ),
          ),
        ),
      )

  pub later-is : AskedRight H N → (f : Refusal)
      → f ≡ refusal_of (recount_row true true (plan_of H) H.lent.avail H.units H.lent.begins H.lent.owners H.lent.derived)
      → f ≡ refusal_of (held_row H)
  unfolding recount_row lent_row held_row
  later-is A f e = e ∙ first_on (recount_front H) (held_row H) refl (front-passes A)

-- ---- 9 and 10, by the number

module _ (H : Held) where
  abbrev counts : Bool
  counts = recounts (plan_of H) H.lent.avail H.units H.lent.begins H.lent.owners H.lent.derived

  held_number : number_of (held_row H) ≡ cond (sound H) (cond counts 0 10) 9
  unfolding held_row sound number_of
  held_number =
      by-test (slots_ok H.slots H.lent.starts H.lent.ends) _
      (λ t. by-test (units_ok H.slots H.units H.lent.begins) _
      (λ u. simp (t, u) (recount-number (plan_of H) H.lent.avail H.units H.lent.begins H.lent.owners H.lent.derived))
      (λ u. simp (t, u)))
      (λ t. simp t)

  module _ (n : ℕ) (e : n ≡ number_of (held_row H)) where
    when_whole : sound H ≡ true → counts ≡ true → n ≡ 0
    when_whole t c = e ∙ held_number ∙ simp (t, c)

    when-sound : sound H ≡ true → counts ≡ false → n ≡ 10
    when-sound t c = e ∙ held_number ∙ simp (t, c)

    when-not : sound H ≡ false → n ≡ 9
    when-not t = e ∙ held_number ∙ simp t

    pub sound-by : eqb n 9 ≡ not (sound H)
    sound-by =
        by-test (sound H) _
        (λ t. by-test counts _ (λ c. ap (λ (x : ℕ). eqb x 9) (when_whole t c) ∙ sym (ap not t)) (λ c. ap (λ (x : ℕ). eqb x 9) (when-sound t c) ∙ sym (ap not t)))
        (λ f. ap (λ (x : ℕ). eqb x 9) (when-not f) ∙ sym (ap not f))

    whole_is : (s c : Bool) → sound H ≡ s → counts ≡ c → not (whole H) ≡ not (s && c)
    unfolding whole
    whole_is s c p q = ap not (mathlib.Core.Path.ap₂ ◌&&◌ p q)

    pub whole_by : not (eqb n 0) ≡ not (whole H)
    whole_by =
        by-test (sound H) _
        (λ t. by-test counts _
        (λ c. ap (λ (x : ℕ). not (eqb x 0)) (when_whole t c) ∙ sym (whole_is true true t c))
        (λ c. ap (λ (x : ℕ). not (eqb x 0)) (when-sound t c) ∙ sym (whole_is true false t c)))
        (λ f. ap (λ (x : ℕ). not (eqb x 0)) (when-not f) ∙ sym (whole_is false counts f refl))

    -- where it is none, the rota is whole
    pub whole-none : n ≡ 0 → whole H ≡ true
    whole-none z = not-not (whole H) (sym whole_by ∙ ap (λ (x : ℕ). not (eqb x 0)) z)
      where
        not-not : (b : Bool) → not b ≡ false → b ≡ true
        not-not true q = refl
        not-not false q = absurd (mathlib.Core.Bool.true≢false q)

-- what a whole rota is
pub whole_says : (H : Held) → whole H ≡ true
    → (slots_ok H.slots H.lent.starts H.lent.ends ≡ true) × (units_ok H.slots H.units H.lent.begins ≡ true)
    × (recounts (plan_of H) H.lent.avail H.units H.lent.begins H.lent.owners H.lent.derived ≡ true)
unfolding whole sound
whole_says H w =
    let x = both (sound H) (recounts (plan_of H) H.lent.avail H.units H.lent.begins H.lent.owners H.lent.derived) w in
    let y = both (slots_ok H.slots H.lent.starts H.lent.ends) (units_ok H.slots H.units H.lent.begins) x.0 in
    (y.0, y.1, x.1)

-- ---- the row, from its parts

-- where one test more refuses nothing, nothing was refused before, and it passes
pub next-none : (f g : Refusal) (t : Test) → 0 < t.number → g ≡ next f t → g.number ≡ 0 → (f.number ≡ 0) × (t.passes ≡ true)
next-none f g t h e z =
    let n : (next f t).number ≡ 0 = ap (λ (x : Refusal). x.number) (sym e) ∙ z in
    by-test (eqb f.number 0) _
    (λ y. let fz = borrow.Author.Tests.eqb-true f.number 0 y in
    by-test t.passes _ (λ p. (fz, p)) (λ p. absurd (omega (arith, h, sym (ap (λ (x : Refusal). x.number) (next-fail f t p fz)) ∙ n))))
    (λ y. let no = borrow.Author.Tests.eqb-false f.number 0 y in
    absurd (no (sym (ap (λ (x : Refusal). x.number) (next-kept f t no)) ∙ n)))

module _ (H : Held) (N : New) (f : Refusal) (ef : f ≡ refusal_of (asked_row H N)) where
  front_of : (f.number ≡ 0 → ⊥) → refusal_of (asked_row H N ++ new_row H N) ≡ f
  front_of n = first_stops (asked_row H N) (new_row H N) (λ z. n (said (asked_row H N) ef ∙ z)) ∙ sym ef

  pub retire-stops : (f.number ≡ 0 → ⊥) → f ≡ refusal_of (retire_row H N)
  unfolding retire_row
  retire-stops n =
      sym (first_stops (asked_row H N ++ new_row H N) (held_row H) (λ z. n (said (asked_row H N ++ new_row H N) (sym (front_of n)) ∙ z)) ∙ front_of n)

  pub retire-on : (g later r : Refusal) → Checked f (new_row H N) g → later ≡ refusal_of (held_row H) → (g.number ≡ 0 → r ≡ later)
      → ((g.number ≡ 0 → ⊥) → r ≡ g) → r ≡ refusal_of (retire_row H N)
  unfolding retire_row asked_row new_row
  retire-on g later r C el a b =
      let eg : g ≡ refusal_of (asked_row H N ++ new_row H N) = checked-more (asked_row H N) (new_row H N) refl ef C in
      by-test (eqb g.number 0) _
      (λ y. let z = borrow.Author.Tests.eqb-true g.number 0 y in
      a z ∙ el ∙ sym (first_on (asked_row H N ++ new_row H N) (held_row H) refl (sym (said (asked_row H N ++ new_row H N) eg) ∙ z)))
      (λ y. let n = borrow.Author.Tests.eqb-false g.number 0 y in
      b n ∙ eg ∙ sym (first_stops (asked_row H N ++ new_row H N) (held_row H) (λ z. n (said (asked_row H N ++ new_row H N) eg ∙ z))))

-- ---- the tests of 3, 5 and 6 as the code asks them

module _ (H : Held) (N : New) (n : ℕ) (e : n ≡ number_of (held_row H)) (went gone kept : ℕ) (ew : went ≡ units_gone H)
    (eg : gone ≡ start_from H.slots H.units H.lent.begins went) (ek : kept ≡ H.slots - gone) where
  pub gone-is : gone ≡ slots_gone H
  unfolding gone_slots
  gone-is = eg ∙ ap (start_from H.slots H.units H.lent.begins) ew

  pub kept-is : kept ≡ slots_kept H
  kept-is = ek ∙ ap (λ (x : ℕ). H.slots - x) gone-is

  pub after-by : (b : Bool) → b ≡ eqb n 9 || (leb N.count 0 || (leb kept 0 || leb (entry H.lent.ends (H.slots - 1)) (entry N.starts 0)))
      → b ≡ not (sound H) || comes_after H N
  unfolding comes_after
  after-by b q =
      q ∙ ap (λ (x : Bool). x || (leb N.count 0 || (leb kept 0 || leb (entry H.lent.ends (H.slots - 1)) (entry N.starts 0)))) (sound-by H n e)
      ∙ ap (λ (x : ℕ). not (sound H) || (leb N.count 0 || (leb x 0 || leb (entry H.lent.ends (H.slots - 1)) (entry N.starts 0)))) kept-is

  pub room_by : (eqb n 9 || leb (kept + length (atom_starts (is_cut H.people N.ranges) N.count N.starts N.ends)) 1024)
      ≡ not (sound H) || leb (slots_then H N) 1024
  unfolding new_starts
  room_by =
      ap (λ (x : Bool). x || leb (kept + length (atom_starts (is_cut H.people N.ranges) N.count N.starts N.ends)) 1024) (sound-by H n e)
      ∙ ap (λ (x : ℕ). not (sound H) || leb (x + length (atom_starts (is_cut H.people N.ranges) N.count N.starts N.ends)) 1024) kept-is

  pub lifted_by : (b : Bool)
      → b ≡ not (eqb n 0) || (all H.people (λ p. leb (prior_then (plan H.people gone H.lent.starts H.lent.ends) H.lent.owners
      H.lent.priors gone p) last_minute) && leb (retired_then (plan H.people gone H.lent.starts H.lent.ends) H.lent.owners
      H.lent.retired gone) last_minute)
      → b ≡ not (whole H) || figures_then_ok H
  unfolding figures_then_ok prior_then retired_then
  lifted_by b q =
      q ∙ ap (λ (x : ℕ). not (eqb n 0) || (all H.people (λ p. leb (entry H.lent.priors p + worked (plan H.people x H.lent.starts
      H.lent.ends) H.lent.owners p) last_minute) && leb (entry H.lent.retired 0 + uncovered (plan H.people x H.lent.starts
      H.lent.ends) H.lent.owners) last_minute)) gone-is
      ∙ ap (λ (x : Bool). x || (all H.people (λ p. leb (entry H.lent.priors p + worked (plan H.people (slots_gone H) H.lent.starts
      H.lent.ends) H.lent.owners p) last_minute) && leb (entry H.lent.retired 0 + uncovered (plan H.people (slots_gone H)
      H.lent.starts H.lent.ends) H.lent.owners) last_minute)) (whole_by H n e)

-- where a rota's units are right, no more slots go than there are
pub gone-few : (slots units : ℕ) (begins : List ℕ) (u : ℕ) → units_ok slots units begins ≡ true → start_from slots units begins u ≤ slots
unfolding start_from
gone-few slots units begins u ok =
    by_cond (ltb u units) (unit_start begins u) slots (λ x. x ≤ slots) (λ t. omega (arith, starts-below slots units begins ok u (ltb-true u units t)))
    (λ f. omega arith)

figures-are : (H : Held)
    → all H.people (λ p. leb (entry H.lent.priors p) last_minute) && leb (entry H.lent.retired 0) last_minute ≡ figures_ok H
unfolding figures_ok
figures-are H = refl

links : (H : Held) (N : New) (f g₁ g₂ g₃ g₄ g₅ g₆ g₇ : Refusal) → g₁ ≡ next f (test 3 (slots_ok N.count N.starts N.ends))
    → g₂ ≡ next g₁ (test 3 (not (sound H) || comes_after H N)) → g₃ ≡ next g₂ (test 4 (ranges_ok H.people N.ranges))
    → g₄ ≡ next g₃ (test 5 (not (sound H) || leb (slots_then H N) slots_most)) → g₅ ≡ next g₄ (test 6 (figures_ok H))
    → g₆ ≡ next g₅ (test 6 (not (whole H) || figures_then_ok H)) → g₇ ≡ next g₆ (test 7 (settings_ok N.settings)) → Checked f (new_row H N) g₇
unfolding new_row
links H N f g₁ g₂ g₃ g₄ g₅ g₆ g₇ e₁ e₂ e₃ e₄ e₅ e₆ e₇ = link e₁ (link e₂ (link e₃ (link e₄ (link e₅ (link e₆ (link e₇ ends))))))

-- ---- all of it, from what the code's calls say

module _ (H : Held) (N : New) (f : Refusal) (ef : f ≡ refusal_of (asked_row H N)) (z : f.number ≡ 0) where
  pub asked : AskedRight H N
  asked = asked-says H N (sym (said (asked_row H N) ef) ∙ z)

  -- where nothing was refused by 3 and 4
  pub new-right : (g₁ g₂ g₃ : Refusal) (b : Bool) → g₁ ≡ next f (test 3 (slots_ok N.count N.starts N.ends)) → g₂ ≡ next g₁ (test 3 b)
      → g₃ ≡ next g₂ (test 4 (ranges_ok H.people N.ranges)) → g₃.number ≡ 0 → NewRight H.people N.count N.starts N.ends N.ranges
  new-right g₁ g₂ g₃ b e₁ e₂ e₃ y =
      let x₃ = next-none g₂ g₃ (test 4 (ranges_ok H.people N.ranges)) (omega arith) e₃ y in
      let x₂ = next-none g₁ g₂ (test 3 b) (omega arith) e₂ x₃.0 in
      let x₁ = next-none f g₁ (test 3 (slots_ok N.count N.starts N.ends)) (omega arith) e₁ x₂.0 in
      record {
        people-ok = asked.people-ok;
        base-few = asked.base-few;
        ranges-few = asked.ranges-few;
        base_ok = x₁.1;
        ranges-ok = x₃.1;
      }

  module _ (later : Refusal)
      (el : later ≡ refusal_of (recount_row true true (plan_of H) H.lent.avail H.units H.lent.begins H.lent.owners H.lent.derived))
      (went gone kept : ℕ) (ew : went ≡ units_gone H) (eg : gone ≡ start_from H.slots H.units H.lent.begins went) (ek : kept ≡ H.slots - gone) where
    fault : later.number ≡ number_of (held_row H)
    fault = said (held_row H) (later-is H N asked later el)

    pub gone-within : later.number ≡ 0 → gone ≤ 1024
    gone-within y =
        let w = whole_says H (whole-none H later.number fault y) in
        omega (arith, eg, gone-few H.slots H.units H.lent.begins went w.1, (slot-count-says H.slots asked.count-ok).1)

    pub retire-all : (g₁ g₂ g₃ g₄ g₅ g₆ g₇ r : Refusal) (b₂ b₅ b₆ b₇ : Bool) → g₁ ≡ next f (test 3 (slots_ok N.count N.starts N.ends))
        → b₂ ≡ eqb later.number 9 || (leb N.count 0 || (leb kept 0 || leb (entry H.lent.ends (H.slots - 1)) (entry N.starts 0)))
        → g₂ ≡ next g₁ (test 3 b₂) → g₃ ≡ next g₂ (test 4 (ranges_ok H.people N.ranges))
        → g₄ ≡ next g₃ (test 5 (eqb later.number 9 || leb (kept + length (atom_starts (is_cut H.people N.ranges) N.count N.starts N.ends)) 1024))
        → b₅ ≡ all H.people (λ p. leb (entry H.lent.priors p) last_minute) && leb (entry H.lent.retired 0) last_minute
        → g₅ ≡ next g₄ (test 6 b₅)
        → b₆ ≡ not (eqb later.number 0) || (all H.people (λ p. leb (prior_then (plan H.people gone H.lent.starts H.lent.ends) H.lent.owners
        H.lent.priors gone p) last_minute) && leb (retired_then (plan H.people gone H.lent.starts H.lent.ends) H.lent.owners
        H.lent.retired gone) last_minute)
        → g₆ ≡ next g₅ (test 6 b₆) → b₇ ≡ settings_ok N.settings → g₇ ≡ next g₆ (test 7 b₇) → (g₇.number ≡ 0 → r ≡ later)
        → ((g₇.number ≡ 0 → ⊥) → r ≡ g₇) → r ≡ refusal_of (retire_row H N)
    retire-all g₁ g₂ g₃ g₄ g₅ g₆ g₇ r b₂ b₅ b₆ b₇ e₁ q₂ e₂ e₃ e₄ q₅ e₅ q₆ e₆ q₇ e₇ passes stops =
        retire-on H N f ef g₇ later r
        (links H N f g₁ g₂ g₃ g₄ g₅ g₆ g₇ e₁ (renamed g₁ 3 e₂ (after-by H N later.number fault went gone kept ew eg ek b₂ q₂)) e₃
        (renamed g₃ 5 e₄ (room_by H N later.number fault went gone kept ew eg ek)) (renamed g₄ 6 e₅ (figures-by q₅))
        (renamed g₅ 6 e₆ (lifted_by H N later.number fault went gone kept ew eg ek b₆ q₆)) (renamed g₆ 7 e₇ q₇))
        (later-is H N asked later el) passes stops
      where
        figures-by : b₅ ≡ all H.people (λ p. leb (entry H.lent.priors p) last_minute) && leb (entry H.lent.retired 0) last_minute
            → b₅ ≡ figures_ok H
        figures-by q = q ∙ figures-are H
