-- The job of a recording in lent columns: a column laid entry by entry, the room, and what is answered. Assumes nothing.
use mathlib.Core.Path.{◌≡◌, refl, sym, ap, ap₂, ◌∙◌}
use mathlib.Core.Bool.{Bool, true, ◌&&◌}
use mathlib.Core.List.{List, ◌++◌}
use Prim.Native.Nat.{ℕ, suc, ◌+◌, ◌≤◌, ◌<◌}
use native.Mathlib.Omega.{arith}
use borrow.Author.Tests.{leb-true}
use lib.Dec.{leb}
use lib.IntN.{ℤ}
use lib.ListN.{length, get_or, set, take, drop, replicate, length-append, length-drop}
use lib.Seq.{length-take-le, take_all, take-suc, drop-cons, append_snoc, set_at}
use Rattle.paper.specs.declared.Refusal.{Refusal}
use Rattle.paper.specs.Rows.{refusal_of}
use Rattle.paper.proofs.Rows.{said, worked, kept}
use Rattle.paper.proofs.Logic.{both}
use Rattle.owners.specs.Derived.{Derived, derived}
use Rattle.job.specs.declared.Begun.{Begun}
use Rattle.job.specs.Stages.{Ready, ready, ready_of, owners_of, started_of}
use Rattle.job.specs.Begun.{begun_tests, ready_from, derived_from, no_ready, no_derived, BegunIn, ready_room, rota_room, laid, ready_laid}
use Rattle.job.specs.Begun.{derived_laid, Lent, lent, beginning, Begins}
use Rattle.job.proofs.Begins.{reading-room}

-- ---- a column, entry by entry

module _ {A : Type 0} (from to₀ : List A) where
  -- the first k entries are laid
  unfoldable pub laying : ℕ → List A
  laying k = take k from ++ drop k to₀

  pub lay-none : to₀ ≡ laying 0
  unfolding laying
  lay-none = refl

  pub lay-length : (k : ℕ) → k ≤ length from → length from ≤ length to₀ → length (laying k) ≡ length to₀
  unfolding laying
  lay-length k h g =
      length-append (take k from) (drop k to₀) ∙ omega (arith, length-take-le k from h, length-drop k to₀)

  pub lay-more : (k : ℕ) (to : List A) (d : A) → k < length from → length from ≤ length to₀ → to ≡ laying k
      → set to k (get_or from k d) ≡ laying (k + 1)
  unfolding laying
  lay-more k to d h g e =
      let n : suc k ≡ k + 1 = omega arith in
      ap (λ (l : List A). set l k (get_or from k d)) e
      ∙ ap (λ (t : List A). set (take k from ++ t) k (get_or from k d)) (drop-cons to₀ k d (omega arith))
      ∙ set_at (take k from) (get_or to₀ k d) (drop (suc k) to₀) (get_or from k d) k (length-take-le k from (omega arith))
      ∙ sym (append_snoc (take k from) (get_or from k d) (drop (suc k) to₀))
      ∙ ap (λ (l : List A). l ++ drop (suc k) to₀) (sym (take-suc from k d h))
      ∙ ap (λ (j : ℕ). take j from ++ drop j to₀) n

  pub lay_done : (k : ℕ) (to : List A) → k ≤ length from → length from ≤ k → to ≡ laying k → to ≡ laid from to₀
  unfolding laying laid
  lay_done k to h g e =
      let n : k ≡ length from = omega arith in
      e ∙ ap (λ (l : List A). l ++ drop k to₀) (take_all k from g) ∙ ap (λ (j : ℕ). from ++ drop j to₀) n

-- ---- the room of each column

pub and_then : (a b : Bool) {c d : Bool} → a ≡ b && c → c ≡ d → a ≡ b && d
and_then a b p q = p ∙ ap (λ (x : Bool). b && x) q

pub record ReadyRoom (S E A B F : ℕ) (T : ℕ) : Type 0 where
  pub starts : 1024 ≤ S
  pub ends : 1024 ≤ E
  pub avail : 512 ≤ A
  pub begins : 1024 ≤ B
  pub frozen : 16 ≤ F
  pub targets : 32 ≤ T

pub ready-room : (L : Ready) → ready_room L ≡ true
    → ReadyRoom (length L.starts) (length L.ends) (length L.avail) (length L.begins) (length L.frozen) (length L.targets)
unfolding ready_room
ready-room L e =
    let a = both (leb 1024 (length L.starts)) _ e in
    let b = both (leb 1024 (length L.ends)) _ a.1 in
    let c = both (leb 512 (length L.avail)) _ b.1 in
    let d = both (leb 1024 (length L.begins)) _ c.1 in
    let f = both (leb 16 (length L.frozen)) _ d.1 in
    record {
      starts = leb-true _ _ a.0;
      ends = leb-true _ _ b.0;
      avail = leb-true _ _ c.0;
      begins = leb-true _ _ d.0;
      frozen = leb-true _ _ f.0;
      targets = leb-true _ _ f.1;
    }

pub record RotaRoom (O S M T : ℕ) : Type 0 where
  pub owners : 1024 ≤ O
  pub sets : 512 ≤ S
  pub minutes : 32 ≤ M
  pub totals : 2 ≤ T

pub rota-room : (o : List ℕ) (D : Derived) → rota_room o D ≡ true
    → RotaRoom (length o) (length D.sets) (length D.minutes) (length D.totals)
unfolding rota_room
rota-room o D e =
    let a = both (leb 1024 (length o)) _ e in
    let b = both (leb 512 (length D.sets)) _ a.1 in
    let c = both (leb 32 (length D.minutes)) _ b.1 in
    record { owners = leb-true _ _ a.0; sets = leb-true _ _ b.0; minutes = leb-true _ _ c.0; totals = leb-true _ _ c.1 }

-- ---- all columns

pub derived-is : (E D : Derived) (s m t : List ℕ) → s ≡ laid E.sets D.sets → m ≡ laid E.minutes D.minutes
    → t ≡ laid E.totals D.totals → derived s m t ≡ derived_laid E D
unfolding derived_laid
derived-is E D s m t p q r =
    ap₂ (λ (x y : List ℕ). derived x y t) p q ∙ ap (λ (x : List ℕ). derived (laid E.sets D.sets) (laid E.minutes D.minutes) x) r

pub ready-is : (R L : Ready) (s e a u f : List ℕ) (t : List ℤ) → s ≡ laid R.starts L.starts → e ≡ laid R.ends L.ends
    → a ≡ laid R.avail L.avail → u ≡ laid R.begins L.begins → f ≡ laid R.frozen L.frozen
    → t ≡ laid R.targets L.targets → ready R.people R.slots s e a R.units u f t ≡ ready_laid R L
unfolding ready_laid
ready-is R L s e a u f t p₁ p₂ p₃ p₄ p₅ p₆ =
    let n = R.people in
    let m = R.slots in
    let k = R.units in
    ap₂ (λ (x y : List ℕ). ready n m x y a k u f t) p₁ p₂
    ∙ ap₂ (λ (x y : List ℕ). ready n m (laid R.starts L.starts) (laid R.ends L.ends) x k y f t) p₃ p₄
    ∙ ap₂ (λ (x : List ℕ) (y : List ℤ). ready n m (laid R.starts L.starts) (laid R.ends L.ends) (laid R.avail L.avail) k
    (laid R.begins L.begins) x y) p₅ p₆

-- ---- what is answered

-- accepted, there is room
pub begun-room : (s : List ℕ) (b : Begun) (board rota room : Bool) → room ≡ board && rota → BegunIn s room b → b.refusal.number ≡ 0
    → (board ≡ true) × (rota ≡ true)
begun-room s b board rota room e B z = both board rota (sym e ∙ reading-room s room (sym (said _ B.refusal) ∙ z))

module _ (s : List ℕ) (L : Lent) (b : Begun) (board rota room : Bool) (p : board ≡ ready_room L.ready)
    (q : rota ≡ rota_room L.owners L.derived) (e : room ≡ board && rota) (B : BegunIn s room b)
  where
    refusal_is : b.refusal ≡ refusal_of (begun_tests s (ready_room L.ready && rota_room L.owners L.derived))
    refusal_is = B.refusal ∙ ap (λ (r : Bool). refusal_of (begun_tests s r)) (e ∙ ap₂ (λ (x y : Bool). x && y) p q)

    number_is : b.refusal.number ≡ (refusal_of (begun_tests s (ready_room L.ready && rota_room L.owners L.derived))).number
    number_is = ap (λ (f : Refusal). f.number) refusal_is

    -- refused, what is lent stays
    pub lent-kept : (b.refusal.number ≡ 0 → ⊥) → Begins (beginning s L) b.refusal L
    unfolding beginning
    lent-kept n = record { said = refusal_is; left = sym (kept _ L _ (λ z. n (number_is ∙ z))) }

    -- begun, what was prepared is laid on it
    pub lent_laid : b.refusal.number ≡ 0 → (R : Ready) (o : List ℕ) (D : Derived) → R ≡ ready_laid (ready_from b) L.ready
        → o ≡ laid b.owners L.owners → D ≡ derived_laid (derived_from b) L.derived → Begins (beginning s L) b.refusal (lent R o D)
    unfolding beginning
    lent_laid z R o D u v w =
        let f : ready_from b ≡ ready_of s = B.ready ∙ worked b.refusal.number no_ready (ready_of s) z in
        let g : b.owners ≡ owners_of s = B.owners ∙ worked b.refusal.number (replicate 1024 0) (owners_of s) z in
        let h : derived_from b ≡ (started_of s).derived = B.derived ∙ worked b.refusal.number no_derived (started_of s).derived z in
        let R' : Ready = ready_laid (ready_of s) L.ready in
        let o' : List ℕ = laid (owners_of s) L.owners in
        let D' : Derived = derived_laid (started_of s).derived L.derived in
        record {
          said = refusal_is;
          left =
              ap₂ (λ (x : Ready) (l : List ℕ). lent x l D) (u ∙ ap (λ (x : Ready). ready_laid x L.ready) f)
              (v ∙ ap (λ (x : List ℕ). laid x L.owners) g)
              ∙ ap (λ (x : Derived). lent R' o' x) (w ∙ ap (λ (x : Derived). derived_laid x L.derived) h)
              ∙ sym (worked _ L (lent R' o' D') (sym number_is ∙ z));
        }
