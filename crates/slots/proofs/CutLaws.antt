-- Cuts and atomic slots: the pieces of one slot, and of all. Assumes nothing.
use mathlib.Core.Path.{◌≡◌, refl, sym, ap, ap₂, ◌∙◌}
use mathlib.Core.Bool.{Bool, true, false, ◌&&◌, and-false}
use mathlib.Core.Logic.{⊎_elim}
use mathlib.Core.List.{List, [], ◌∷◌, ◌++◌, append_assoc, append-nil}
use Prim.Native.Nat.{ℕ, zero, suc, ◌+◌, ◌-◌, ◌≤◌, ◌<◌}
use native.Mathlib.Numerals.{add-one}
use native.Mathlib.Omega.{arith}
use borrow.Author.Tests.{lt-ltb, le-ltb, le-leb, lt-leb}
use lib.Dec.{ltb}
use lib.ListN.{length, get_or, take, set, length-append, length-set}
use lib.Seq.{length-take-le}
use Rattle.std.proofs.Common.{Option, Some, None}
use Rattle.paper.specs.Count.{among}
use Rattle.paper.proofs.Logic.{lt-or-ge, and-true, and-stops}
use Rattle.paper.proofs.Count.{among_in, among-gap, among-longer}
use Rattle.slots.specs.Atomic.{cut_after, cuts_in, atom_starts, atom_ends}
use Rattle.slots.specs.Inside.{or_full, NextCut, Grown}
use Rattle.slots.proofs.Entries.{push}

-- ---- the cuts inside one slot

module _ (cut : ℕ → Bool) (s : ℕ) where
  cut-passes : (t : ℕ) → s < t → cut t ≡ true → cut_after cut s t ≡ true
  unfolding cut_after
  cut-passes t h e = and-true _ _ (lt-ltb s t h) e

  cut-fails : (t : ℕ) → cut t ≡ false → cut_after cut s t ≡ false
  unfolding cut_after
  cut-fails t e = ap (λ (b : Bool). ltb s t && b) e ∙ and-false (ltb s t)

  cut-before : (t : ℕ) → t ≤ s → cut_after cut s t ≡ false
  unfolding cut_after
  cut-before t h = and-stops _ _ (le-ltb s t h)

  -- no cut has been passed at the slot's start
  pub cuts-none : among (cut_after cut s) (s + 1) ≡ []
  unfolding among
  cuts-none =
      let e : s + 1 ≡ 0 + (s + 1) = omega arith in
      ap (among (cut_after cut s)) e ∙ among-gap (cut_after cut s) 0 (s + 1) (λ t x y. cut-before t (omega arith))

  module _ (prev end c : ℕ) (from : s ≤ prev) (N : NextCut cut prev end c) where
    -- up to the next cut there is none
    to-cut : among (cut_after cut s) c ≡ among (cut_after cut s) (prev + 1)
    to-cut =
        let e : c ≡ prev + 1 + (c - (prev + 1)) = omega (arith, N.from) in
        ap (among (cut_after cut s)) e
        ∙ among-gap (cut_after cut s) (prev + 1) (c - (prev + 1)) (λ t x y. cut-fails t (N.before t (omega arith) (omega (arith, N.from))))

    pub cuts-next : c < end → among (cut_after cut s) (c + 1) ≡ among (cut_after cut s) (prev + 1) ++ (c ∷ [])
    cuts-next h =
        among_in (cut_after cut s) c (cut-passes c (omega (arith, N.from)) (N.here h)) ∙ ap (λ (k : List ℕ). k ++ (c ∷ [])) to-cut

    pub cuts-last : end ≤ c → cuts_in cut s end ≡ among (cut_after cut s) (prev + 1)
    unfolding cuts_in
    cuts-last h = let e : end ≡ c = omega (arith, N.within) in ap (among (cut_after cut s)) e ∙ to-cut

-- ---- one slot, piece by piece

-- the pieces before `prev` are in the lists, the one from `prev` on is not yet
pub record Splitting (cut : ℕ → Bool) (s count prev m : ℕ) (S₀ E₀ S E : List ℕ) : Type 0 where
  pub from : s ≤ prev
  pub few : m ≤ 1024
  pub room : (1024 ≤ length S₀) × (1024 ≤ length E₀)
  pub lengths : (length S ≡ length S₀) × (length E ≡ length E₀)
  pub starts : take m S ++ (prev ∷ []) ≡ take count S₀ ++ (s ∷ among (cut_after cut s) (prev + 1))
  pub ends : take m E ≡ take count E₀ ++ among (cut_after cut s) (prev + 1)

pub full-some : (n : ℕ) → n ≤ 1024 → or_full n ≡ Some n
unfolding or_full
full-some n h = simp (le-leb n 1024 h)

pub full-over : (n : ℕ) → 1024 < n → or_full n ≡ None
unfolding or_full
full-over n h = simp (lt-leb n 1024 h)

-- a number that was given is that of all, and few enough
pub full-is : (n r : ℕ) → Some r ≡ or_full n → (r ≡ n) × (n ≤ 1024)
full-is n r e =
    ⊎_elim (λ (g : 1024 < n). absurd (let q : Some r ≡ None = e ∙ full-over n g in cc))
    (λ (g : n ≤ 1024). let q : Some r ≡ Some n = e ∙ full-some n g in (cc, g)) (lt-or-ge 1024 n)

-- where none was given they are too many
pub full-not : (n : ℕ) → None ≡ or_full n → 1024 < n
full-not n e =
    ⊎_elim (λ g. g) (λ (g : n ≤ 1024). absurd (let q : None ≡ Some n = e ∙ full-some n g in cc)) (lt-or-ge 1024 n)

pub split-starts : (cut : ℕ → Bool) (s count : ℕ) (S E : List ℕ) → count ≤ 1024 → 1024 ≤ length S → 1024 ≤ length E
    → Splitting cut s count s count S E S E
split-starts cut s count S E a b d =
    record {
      from = omega arith;
      few = a;
      room = (b, d);
      lengths = (refl, refl);
      starts = ap (λ (k : List ℕ). take count S ++ (s ∷ k)) (sym (cuts-none cut s));
      ends = sym (ap (λ (k : List ℕ). take count E ++ k) (cuts-none cut s) ∙ append-nil (take count E));
    }

module _ (cut : ℕ → Bool) (s count prev m : ℕ) (S₀ E₀ S E : List ℕ) (I : Splitting cut s count prev m S₀ E₀ S E) where
  pub split-room : m < 1024 → (m < length S) × (m < length E)
  split-room h = (omega (arith, I.room.0, I.lengths.0), omega (arith, I.room.1, I.lengths.1))

  module _ (end c : ℕ) (h : m < 1024) (N : NextCut cut prev end c) where
    new-starts : take (m + 1) (set S m prev) ≡ take count S₀ ++ (s ∷ among (cut_after cut s) (prev + 1))
    new-starts = push S m prev (split-room h).0 ∙ I.starts

    new-ends : take (m + 1) (set E m c) ≡ take count E₀ ++ (among (cut_after cut s) (prev + 1) ++ (c ∷ []))
    new-ends =
        push E m c (split-room h).1 ∙ ap (λ (k : List ℕ). k ++ (c ∷ [])) I.ends
        ∙ append_assoc (take count E₀) (among (cut_after cut s) (prev + 1)) (c ∷ [])

    pub split-more : c < end → Splitting cut s count c (m + 1) S₀ E₀ (set S m prev) (set E m c)
    split-more g =
        let q = cuts-next cut s prev end c I.from N g in
        record {
          from = omega (arith, I.from, N.from);
          few = omega arith;
          room = I.room;
          lengths = (length-set S m prev ∙ I.lengths.0, length-set E m c ∙ I.lengths.1);
          starts =
              ap (λ (k : List ℕ). k ++ (c ∷ [])) new-starts ∙ append_assoc (take count S₀) (s ∷ among (cut_after cut s) (prev + 1)) (c ∷ [])
              ∙ ap (λ (k : List ℕ). take count S₀ ++ (s ∷ k)) (sym q);
          ends = new-ends ∙ ap (λ (k : List ℕ). take count E₀ ++ k) (sym q);
        }

    pub split-ends : count ≤ 1024 → end ≤ c
        → Grown count S₀ E₀ (s ∷ cuts_in cut s end) (cuts_in cut s end ++ (end ∷ [])) (Some (m + 1)) (set S m prev) (set E m c)
    split-ends few g =
        let q = cuts-last cut s prev end c I.from N g in
        let e : c ≡ end = omega (arith, N.within) in
        let a : take (m + 1) (set S m prev) ≡ take count S₀ ++ (s ∷ cuts_in cut s end) = new-starts
        ∙ ap (λ (k : List ℕ). take count S₀ ++ (s ∷ k)) (sym q) in
        let n : m + 1 ≡ count + length (s ∷ cuts_in cut s end) =
        omega (
          arith,
          ap length a,
          length-append (take count S₀) (s ∷ cuts_in cut s end),
          length-take-le count S₀ (omega (arith, I.room.0)),
          length-take-le (m + 1) (set S m prev) (omega (arith, length-set S m prev, (split-room h).0)),
        ) in
        record {
          number = ap Some n ∙ sym (full-some _ (omega (arith, n)));
          starts = λ _. rw (← n) a;
          ends = λ _. rw (← n) (new-ends ∙ ap₂ (λ (k : List ℕ) (x : ℕ). take count E₀ ++ (k ++ (x ∷ []))) (sym q) e);
        }

  -- no room for the next piece
  pub split-full : (end : ℕ) → prev < end → count ≤ 1024 → 1024 ≤ m
      → Grown count S₀ E₀ (s ∷ cuts_in cut s end) (cuts_in cut s end ++ (end ∷ [])) None S E
  unfolding cuts_in
  split-full end h few g =
      let e : end ≡ prev + 1 + (end - (prev + 1)) = omega arith in
      let long = among-longer (cut_after cut s) (prev + 1) (end - (prev + 1)) in
      let n : 1024 < count + length (s ∷ among (cut_after cut s) end) =
      omega (
        arith,
        ap (λ (k : ℕ). length (among (cut_after cut s) k)) e,
        long,
        ap length I.starts,
        length-append (take m S) (prev ∷ []),
        length-append (take count S₀) (s ∷ among (cut_after cut s) (prev + 1)),
        length-take-le count S₀ (omega (arith, I.room.0)),
        length-take-le m S (omega (arith, I.few, I.room.0, I.lengths.0)),
      ) in
      record {
        number = sym (full-over _ n);
        starts = λ x. absurd (omega arith);
        ends = λ x. absurd (omega arith);
      }

-- ---- all slots, one by one

pub record Growing (cut : ℕ → Bool) (i : ℕ) (starts ends : List ℕ) (count : ℕ) (F₀ T₀ F T : List ℕ) : Type 0 where
  pub few : count ≤ 1024
  pub number : count ≡ length (atom_starts cut i starts ends)
  pub lengths : (length F ≡ length F₀) × (length T ≡ length T₀)
  pub froms : take count F ≡ atom_starts cut i starts ends
  pub tos : take count T ≡ atom_ends cut i starts ends

module _ (cut : ℕ → Bool) (starts ends : List ℕ) where
  starts_more : (i : ℕ) → atom_starts cut (i + 1) starts ends
      ≡ atom_starts cut i starts ends ++ (get_or starts i 0 ∷ cuts_in cut (get_or starts i 0) (get_or ends i 0))
  unfolding atom_starts
  starts_more i = ap (λ (n : ℕ). atom_starts cut n starts ends) (add-one i)

  ends_more : (i : ℕ) → atom_ends cut (i + 1) starts ends ≡ atom_ends cut i starts ends ++ (cuts_in cut (get_or starts i 0) (get_or ends i 0) ++
      (get_or ends i 0 ∷ []))
  unfolding atom_ends
  ends_more i = ap (λ (n : ℕ). atom_ends cut n starts ends) (add-one i)

  starts-longer : (i d : ℕ) → length (atom_starts cut i starts ends) ≤ length (atom_starts cut (i + d) starts ends)
  starts-longer i zero = let e : i + zero ≡ i = omega arith in omega (arith, ap (λ (n : ℕ). length (atom_starts cut n starts ends)) e)
  starts-longer i (suc d) =
      let e : i + suc d ≡ i + d + 1 = omega arith in
      omega (
        arith,
        ap (λ (n : ℕ). length (atom_starts cut n starts ends)) e,
        ap length (starts_more (i + d)),
        starts-longer i d,
        length-append (atom_starts cut (i + d) starts ends)
            (get_or starts (i + d) 0 ∷ cuts_in cut (get_or starts (i + d) 0) (get_or ends (i + d) 0)),
      )

  pub grow-starts : (F T : List ℕ) → Growing cut 0 starts ends 0 F T F T
  unfolding atom_starts atom_ends
  grow-starts F T = record { few = omega arith; number = refl; lengths = (refl, refl); froms = refl; tos = refl }

  module _ (i count : ℕ) (r : Option ℕ) (F₀ T₀ F T F' T' : List ℕ) (G : Growing cut i starts ends count F₀ T₀ F T)
      (W : Grown count F T (get_or starts i 0 ∷ cuts_in cut (get_or starts i 0) (get_or ends i 0)) (cuts_in cut (get_or starts i 0) (get_or ends i 0) ++
      (get_or ends i 0 ∷ [])) r F' T') where
    total : length (atom_starts cut (i + 1) starts ends) ≡ count + length (get_or starts i 0 ∷ cuts_in cut (get_or starts i 0) (get_or ends i 0))
    total =
        omega (
          arith,
          ap length (starts_more i),
          G.number,
          length-append (atom_starts cut i starts ends) (get_or starts i 0 ∷ cuts_in cut (get_or starts i 0) (get_or ends i 0)),
        )

    pub grow-more : length F' ≡ length F → length T' ≡ length T → (m : ℕ) → r ≡ Some m → Growing cut (i + 1) starts ends m F₀ T₀ F' T'
    grow-more a b m e =
        let f = full-is (count + length (get_or starts i 0 ∷ cuts_in cut (get_or starts i 0) (get_or ends i 0))) m (sym e ∙ W.number) in
        record {
          few = omega (arith, f.0, f.1);
          number = f.0 ∙ sym total;
          lengths = (a ∙ G.lengths.0, b ∙ G.lengths.1);
          froms = rw f.0 (W.starts f.1) ∙ ap (λ (k : List ℕ). k ++ (get_or starts i 0 ∷ cuts_in cut (get_or starts i 0) (get_or ends i 0))) G.froms
              ∙ sym (starts_more i);
          tos = rw f.0 (W.ends f.1) ∙ ap (λ (k : List ℕ). k ++ (cuts_in cut (get_or starts i 0) (get_or ends i 0) ++ (get_or ends i 0 ∷ []))) G.tos
              ∙ sym (ends_more i);
        }

    pub grow-full : (slots : ℕ) → i < slots → r ≡ None → Grown 0 F₀ T₀ (atom_starts cut slots starts ends)
        (atom_ends cut slots starts ends) None F' T'
    grow-full slots h g =
        let over = full-not (count + length (get_or starts i 0 ∷ cuts_in cut (get_or starts i 0) (get_or ends i 0))) (sym g ∙ W.number) in
        let e : slots ≡ i + 1 + (slots - (i + 1)) = omega arith in
        let all : 1024 < 0 + length (atom_starts cut slots starts ends) =
        omega (arith, over, total, starts-longer (i + 1) (slots - (i + 1)), ap (λ (n : ℕ). length (atom_starts cut n starts ends)) e) in
        record {
          number = sym (full-over _ all);
          starts = λ x. absurd (omega arith);
          ends = λ x. absurd (omega arith);
        }

  pub grow-ends : (slots i count : ℕ) (F₀ T₀ F T : List ℕ) → Growing cut i starts ends count F₀ T₀ F T → i ≤ slots → slots ≤ i
      → Grown 0 F₀ T₀ (atom_starts cut slots starts ends) (atom_ends cut slots starts ends) (Some count) F T
  grow-ends slots i count F₀ T₀ F T G a b =
      let e : i ≡ slots = omega arith in
      let n : count ≡ 0 + length (atom_starts cut slots starts ends) = omega (
        arith,
        G.number,
        ap (λ (n : ℕ). length
            (atom_starts cut n starts ends)) e,
      ) in
      record {
        number = ap Some n ∙ sym (full-some _ (omega (arith, n, G.few)));
        starts = λ _. rw (← n) (G.froms ∙ ap (λ (n : ℕ). atom_starts cut n starts ends) e);
        ends = λ _. rw (← n) (G.tos ∙ ap (λ (n : ℕ). atom_ends cut n starts ends) e);
      }
