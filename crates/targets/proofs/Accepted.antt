-- The checks before the work: what they leave known where nothing is refused by them, and what the whole row says then. Assumes nothing.
use Rattle.std.proofs.Common.{◌≡◌, ℕ, ◌*◌, ◌<◌, ◌≤◌, Bool, true, false, not, ◌&&◌, eqb, ltb, leb, List, [], ◌∷◌, ◌++◌, length, sym, refl, ap, ◌∙◌, arith, ltb-true, le-leb, leb-true}
use borrow.Author.Tests.{eqb-false, not-true, not-false}
use Rattle.paper.specs.Limits.{people_ok, slot_count_ok, Test, test, number_of}
use Rattle.paper.specs.Rows.{unless}
use Rattle.paper.proofs.Logic.{by-test, both, neither, or-second, people-says, slot-count-says}
use Rattle.paper.proofs.Refusals.{number-pass, number-fail}
use Rattle.paper.proofs.Rows.{worked, kept, numbered, passed, Pass, all_pass}
use Rattle.slots.specs.Lent.{slot_room_ok, slots_ok}
use Rattle.targets.specs.Figures.{all_figures_ok}
use Rattle.targets.specs.Passes.{guarded}
use Rattle.targets.specs.Outcome.{Given, passed_in, guard_ok, room_row, targets_row}
use Rattle.targets.specs.Inside.{checks_row, Sound}

-- ---- rows

-- first tests that pass say nothing
after-pass : (ts us : List Test) → Pass ts → number_of (ts ++ us) ≡ number_of us
after-pass [] us p = refl
after-pass (t ∷ ts) us p = number-pass t (ts ++ us) p.0 ∙ after-pass ts us p.1

-- a test that passes says nothing, wherever it stands
pub says_nothing : (ts : List Test) (t : Test) (us : List Test) → t.passes ≡ true → number_of (ts ++ (t ∷ us)) ≡ number_of (ts ++ us)
says_nothing [] t us e = number-pass t us e
says_nothing (s ∷ ts) t us e =
    by-test s.passes _
    (λ q. number-pass s (ts ++ (t ∷ us)) q ∙ says_nothing ts t us e ∙ sym (number-pass s (ts ++ us) q))
    (λ q. number-fail s (ts ++ (t ∷ us)) q ∙ sym (number-fail s (ts ++ us) q))

-- one that fails, before tests that pass, is given where nothing else is
says-else : (ts : List Test) (t : Test) (us : List Test) → numbered ts ≡ true → t.passes ≡ false → Pass us
    → number_of (ts ++ (t ∷ us)) ≡ unless (number_of (ts ++ us)) (number_of (ts ++ us)) t.number
says-else [] t us h e p = number-fail t us e ∙ sym (worked (number_of us) (number_of us) t.number (all_pass us p))
says-else (s ∷ ts) t us h e p =
    let x = both (ltb 0 s.number) (numbered ts) h in
    let l = ltb-true 0 s.number x.0 in
    by-test s.passes _
    (λ q.
    number-pass s (ts ++ (t ∷ us)) q ∙ says-else ts t us x.1 e p
    ∙ sym (ap (λ (n : ℕ). unless n n t.number) (number-pass s (ts ++ us) q)))
    (λ q.
    let f = number-fail s (ts ++ us) q in
    number-fail s (ts ++ (t ∷ us)) q ∙ sym f ∙ sym (kept _ _ t.number (λ z. omega (arith, f, z, l))))

-- a number that no test has is not given
abbrev pub unlisted : ℕ → List Test → Bool
unlisted k [] = true
unlisted k (t ∷ ts) = not (eqb t.number k) && unlisted k ts

pub unlisted-not-given : (k : ℕ) (ts : List Test) → unlisted k ts ≡ true → 0 < k → number_of ts ≡ k → ⊥
unfolding number_of
unlisted-not-given k [] h l e = omega arith
unlisted-not-given k (t ∷ ts) h l e =
    let x = both (not (eqb t.number k)) (unlisted k ts) h in
    by-test t.passes _ (λ q. unlisted-not-given k ts x.1 l (sym (number-pass t ts q) ∙ e))
    (λ q. eqb-false t.number k (not-true _ x.0) (sym (number-fail t ts q) ∙ e))

-- ---- what the whole row says, by the checks: 8 is given where nothing else is

module _ (g : Given) (room : ℕ) where
  abbrev whole : ℕ
  whole = number_of (targets_row g room)

  abbrev checks : ℕ
  checks = number_of (checks_row g room)

  abbrev ordered : Bool
  ordered = slots_ok g.slots g.starts g.ends

  -- the row up to 8
  abbrev front : List Test
  front = room_row g room ++ (test 6 (all_figures_ok g.people g.capacities g.priors) ∷ test 7 (leb g.fairness 1)
      ∷ test 7 (leb g.edition 1) ∷ [])

  pub with-guard : guard_ok g ≡ true → whole ≡ checks
  unfolding targets_row checks_row room_row
  with-guard e = says_nothing front (test 8 (guard_ok g)) (test 9 ordered ∷ []) e

  pub guard-says : guard_ok g ≡ false → (ordered ≡ true) × (guarded (passed_in g) ≡ false)
  unfolding guard_ok
  guard-says e = let x = neither (not ordered) (guarded (passed_in g)) e in (not-false ordered x.0, x.1)

  pub breaks-guard : ordered ≡ true → guarded (passed_in g) ≡ false → guard_ok g ≡ false
  unfolding guard_ok
  breaks-guard o e = rw (o, e)

  pub keeps-guard : guarded (passed_in g) ≡ true → guard_ok g ≡ true
  unfolding guard_ok
  keeps-guard e = or-second (not ordered) (guarded (passed_in g)) e

  no-guard : guard_ok g ≡ false → whole ≡ unless checks checks 8
  unfolding targets_row checks_row room_row
  no-guard e = says-else front (test 8 (guard_ok g)) (test 9 ordered ∷ []) refl e ((guard-says e).0, tt)

  -- refused by the checks
  pub row-refused : (checks ≡ 0 → ⊥) → whole ≡ checks
  row-refused h = by-test (guard_ok g) _ with-guard (λ e. no-guard e ∙ kept checks checks 8 h)

  -- refused by the work
  pub row-eight : checks ≡ 0 → guard_ok g ≡ false → whole ≡ 8
  row-eight z e = no-guard e ∙ worked checks checks 8 z

-- ---- what checks that find nothing leave known

pub record Accepted (g : Given) (room : ℕ) : Type 0 where
  pub sound : Sound g
  pub out-room : g.people ≤ room

pub accepted : (g : Given) (room : ℕ) → number_of (checks_row g room) ≡ 0 → Accepted g room
unfolding checks_row room_row
accepted g room z =
    let h = passed (checks_row g room) refl z in
    let p = people-says g.people (h 0) in
    record {
      sound = record {
        somebody = p.0;
        few = p.1;
        slots-few = (slot-count-says g.slots (h 1)).1;
        words = leb-true _ _ (h 3);
        capacities-room = leb-true _ _ (h 4);
        priors-room = leb-true _ _ (h 5);
        figures = h 7;
        flag = leb-true _ _ (h 8);
        edition-known = leb-true _ _ (h 9);
        ordered = h 10;
      };
      out-room = leb-true _ _ (h 6);
    }

-- ---- and the way back

-- counts and room pass
pub record Lent (g : Given) (room : ℕ) : Type 0 where
  pub people-ok : people_ok g.people ≡ true
  pub slots-ok : slot_count_ok g.slots ≡ true
  pub columns : slot_room_ok g.slots g.starts g.ends ≡ true
  pub words : 16 * g.people ≤ length g.avail
  pub capacities-room : g.people ≤ length g.capacities
  pub priors-room : g.people ≤ length g.priors
  pub out-room : g.people ≤ room

-- then 6, 7 and 9 are given
pub lent-checks : (g : Given) (room : ℕ) → Lent g room
    → number_of (checks_row g room) ≡ number_of (test 6 (all_figures_ok g.people g.capacities g.priors) ∷ test 7 (leb g.fairness 1)
    ∷ test 7 (leb g.edition 1) ∷ test 9 (slots_ok g.slots g.starts g.ends) ∷ [])
unfolding checks_row room_row
lent-checks g room l =
    after-pass (room_row g room) _ (
      l.people-ok,
      (
        l.slots-ok,
        (
          l.columns,
          (
            le-leb _ _ l.words,
            (
              le-leb _ _ l.capacities-room,
              (
                le-leb _ _ l.priors-room,
                (le-leb _ _ l.out-room, tt),
              ),
            ),
          ),
        ),
      ),
    )
