-- Laws of bytes written into a lent buffer, one text after the other. Assumes nothing.
use mathlib.Core.Path.{◌≡◌, refl, sym, ap, ap₂, ◌∙◌, subst}
use mathlib.Core.List.{List, [], ◌∷◌, ◌++◌, append_assoc}
use Prim.Native.Nat.{ℕ, ◌+◌, ◌≤◌, ◌<◌}
use native.Mathlib.Numerals.{add-one}
use native.Mathlib.Omega.{arith}
use lib.ListN.{length, set, take, drop, length-append, length-drop, take-append-drop}
use lib.Seq.{length-take-le, take_at, drop-append-add, set_split, drop-drop}
use Rattle.records.specs.Puts.{put, Wrote}

-- what stands up to the end of l
front : (l : List ℕ) (at : ℕ) (x : List ℕ) → at + length l ≤ length x → length (take at x ++ l) ≡ at + length l
front l at x h = length-append (take at x) l ∙ ap (λ (n : ℕ). n + length l) (length-take-le at x (omega arith))

put-grouped : (l : List ℕ) (at : ℕ) (x : List ℕ) → put l at x ≡ (take at x ++ l) ++ drop (at + length l) x
unfolding put
put-grouped l at x = sym (append_assoc (take at x) l (drop (at + length l) x))

pub length-put : (l : List ℕ) (at : ℕ) (x : List ℕ) → at + length l ≤ length x → length (put l at x) ≡ length x
length-put l at x h =
    ap length (put-grouped l at x) ∙ length-append (take at x ++ l) (drop (at + length l) x)
    ∙ omega (arith, front l at x h, length-drop (at + length l) x)

pub put-none : (at : ℕ) (x : List ℕ) → put [] at x ≡ x
unfolding put
put-none at x =
    let z : at + 0 ≡ at = omega arith in
    ap (λ (n : ℕ). take at x ++ drop n x) z ∙ take-append-drop at x

-- one text after another is both at once
pub put-put : (l m : List ℕ) (at : ℕ) (x : List ℕ) → at + length l ≤ length x → put m (at + length l) (put l at x) ≡ put (l ++ m) at x
put-put l m at x h =
    let p = take at x ++ l in
    let e = put-grouped l at x in
    let w : at + length l + length m ≡ at + length (l ++ m) = omega (arith, length-append l m) in
    let n : at + length l + length m ≡ length p + length m = omega (arith, front l at x h) in
    let t : take (at + length l) (put l at x) ≡ p =
    ap (take (at + length l)) e ∙ take_at p (drop (at + length l) x) (at + length l) (front l at x h) in
    let d : drop (at + length l + length m) (put l at x) ≡ drop (at + length (l ++ m)) x =
    ap₂ drop n e ∙ drop-append-add p (drop (at + length l) x) (length m) ∙ drop-drop (length m) (at + length l) x
    ∙ ap (λ (k : ℕ). drop k x) w in
    let tail = drop (at + length (l ++ m)) x in
    whole m (at + length l) (put l at x) ∙ ap₂ (λ (a b : List ℕ). a ++ (m ++ b)) t d
    ∙ append_assoc (take at x) l (m ++ tail) ∙ ap (λ (r : List ℕ). take at x ++ r) (sym (append_assoc l m tail))
    ∙ sym (whole (l ++ m) at x)
  where
    whole : (l : List ℕ) (at : ℕ) (x : List ℕ) → put l at x ≡ take at x ++ (l ++ drop (at + length l) x)
    whole l at x = put-grouped l at x ∙ append_assoc (take at x) l (drop (at + length l) x)

pub wrote-length : {l : List ℕ} {at : ℕ} {x : List ℕ} {e : ℕ} {y : List ℕ} → Wrote l at x e y → at + length l ≤ length x
    → length y ≡ length x
wrote-length {l} {at} {x} w h = ap length w.text ∙ length-put l at x h

pub wrote_none : (at : ℕ) (x : List ℕ) → Wrote [] at x at x
wrote_none at x = record { ends = omega arith; text = sym (put-none at x) }

pub wrote_one : (v at : ℕ) (x : List ℕ) → at < length x → Wrote (v ∷ []) at x (at + 1) (set x at v)
unfolding put
wrote_one v at x h =
    record { ends = refl; text = set_split x at v h ∙ ap (λ (n : ℕ). take at x ++ (v ∷ drop n x)) (sym (add-one at)) }

pub wrote_then : {l m : List ℕ} {at : ℕ} {x : List ℕ} {e g : ℕ} {y z : List ℕ} → Wrote l at x e y → Wrote m e y g z
    → at + length l ≤ length x → Wrote (l ++ m) at x g z
wrote_then {l} {m} {at} {x} {e} {g} {y} {z} u v h =
    record {
      ends = omega (arith, v.ends, u.ends, length-append l m);
      text = v.text ∙ ap₂ (put m) u.ends u.text ∙ put-put l m at x h;
    }

-- room for two texts is room for the first, and for the second once the first stands
pub room-first : (l m : List ℕ) (at : ℕ) {n : ℕ} → at + length (l ++ m) ≤ n → at + length l ≤ n
room-first l m at h = omega (arith, length-append l m)

pub room_next : {l : List ℕ} (m : List ℕ) {at : ℕ} {x : List ℕ} {e : ℕ} {y : List ℕ} → Wrote l at x e y → at + length (l ++ m) ≤ length x
    → e + length m ≤ length y
room_next {l} m {at} {x} {e} {y} w h = omega (arith, length-append l m, w.ends, wrote-length w (room-first l m at h))

pub wrote-both : {l m : List ℕ} {at : ℕ} {x : List ℕ} {e g : ℕ} {y z : List ℕ} → Wrote l at x e y → Wrote m e y g z
    → at + length (l ++ m) ≤ length x → Wrote (l ++ m) at x g z
wrote-both {l} {m} {at} u v h = wrote_then u v (room-first l m at h)

-- the same text by another name
pub wrote-same : {l m : List ℕ} {at : ℕ} {x : List ℕ} {e : ℕ} {y : List ℕ} → l ≡ m → Wrote l at x e y → Wrote m at x e y
wrote-same {at = at} {x} {e} {y} q w = subst (λ (t : List ℕ). Wrote t at x e y) q w
