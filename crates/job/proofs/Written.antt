-- What was written into a body is read back from it, field by field, whatever follows. Assumes nothing.
use mathlib.Core.Path.{◌≡◌, ap, ◌∙◌}
use mathlib.Core.List.{List, [], ◌∷◌, ◌++◌, append_assoc}
use Prim.Native.Nat.{ℕ, zero, suc, ◌+◌, ◌^◌, ◌<◌}
use native.Mathlib.Omega.{arith}
use lib.Dec.{lit<}
use lib.ListN.{length, get_or}
use Rattle.records.specs.Fields.{le, le_bytes}
use Rattle.records.proofs.Numbers.{le-back, le-written, length-bytes}

-- ---- a body as it is written: fields one after the other

pub record Field : Type 0 where
  pub width : ℕ
  pub value : ℕ

-- a byte, two bytes, four and eight
abbrev pub byte : ℕ → Field
byte v = record { width = 1; value = v }

abbrev pub two : ℕ → Field
two v = record { width = 2; value = v }

abbrev pub four : ℕ → Field
four v = record { width = 4; value = v }

abbrev pub eight : ℕ → Field
eight v = record { width = 8; value = v }

unfoldable pub body_of : List Field → List ℕ
body_of [] = []
body_of (f ∷ fs) = le_bytes f.width f.value ++ body_of fs

-- the bodies of the seven kinds
abbrev pub settings_body : ℕ → ℕ → ℕ → ℕ → ℕ → ℕ → List Field
settings_body fairness lock boundary edition value days =
    byte fairness ∷ byte lock ∷ byte boundary ∷ byte edition ∷ two value ∷ two days ∷ []

abbrev pub base_body : ℕ → ℕ → List Field
base_body start end = four start ∷ four end ∷ []

abbrev pub person_body : ℕ → ℕ → List Field
person_body capacity prior = eight capacity ∷ four prior ∷ []

abbrev pub range_body : ℕ → ℕ → ℕ → List Field
range_body person start end = two person ∷ four start ∷ four end ∷ []

abbrev pub freeze_body : ℕ → List Field
freeze_body instant = four instant ∷ []

abbrev pub owner_body : ℕ → ℕ → List Field
owner_body slot owner = two slot ∷ two owner ∷ []

abbrev pub draw_body : ℕ → ℕ → ℕ → List Field
draw_body draw first second = two draw ∷ two first ∷ two second ∷ []

-- ---- the fields of any body

-- the first field, and one after the first
first_back : (f : Field) (fs : List Field) (x : List ℕ) → f.value < 256 ^ f.width → le f.width (body_of (f ∷ fs) ++ x) 0 ≡ f.value
unfolding body_of
first_back f fs x h =
    ap (λ (l : List ℕ). le f.width l 0) (append_assoc (le_bytes f.width f.value) (body_of fs) x)
    ∙ le-written f.width f.value (body_of fs ++ x) h

later-back : (f : Field) (fs : List Field) (x : List ℕ) (n k : ℕ) → le n (body_of (f ∷ fs) ++ x) (f.width + k) ≡ le n (body_of fs ++ x) k
unfolding body_of
later-back f fs x n k =
    let b = le_bytes f.width f.value in
    let w : f.width + k ≡ length b + k = omega (arith, length-bytes f.width f.value) in
    ap (λ (l : List ℕ). le n l (f.width + k)) (append_assoc b (body_of fs) x) ∙ ap (le n (b ++ (body_of fs ++ x))) w
    ∙ le-back n b (body_of fs ++ x) k

-- field k, and the byte at which it begins
abbrev field_of : List Field → ℕ → Field
field_of fs k = get_or fs k (byte 0)

abbrev place_of : List Field → ℕ → ℕ
place_of fs zero = 0
place_of [] (suc k) = 0
place_of (f ∷ fs) (suc k) = f.width + place_of fs k

field_back : (fs : List Field) (x : List ℕ) (k : ℕ) → k < length fs → (field_of fs k).value < 256 ^ (field_of fs k).width
    → le (field_of fs k).width (body_of fs ++ x) (place_of fs k) ≡ (field_of fs k).value
field_back [] x k h b = absurd (omega arith)
field_back (f ∷ fs) x zero h b = first_back f fs x b
field_back (f ∷ fs) x (suc k) h b = later-back f fs x (field_of fs k).width (place_of fs k) ∙ field_back fs x k (omega arith) b

-- ---- the seven kinds

pub settings-back : (fairness lock boundary edition value days : ℕ) (x : List ℕ) → fairness < 256 → lock < 256 → boundary < 256
    → edition < 256 → value < 65536 → days < 65536
    → let b = body_of (settings_body fairness lock boundary edition value days) ++ x in
    (le 1 b 0 ≡ fairness) × (le 1 b 1 ≡ lock) × (le 1 b 2 ≡ boundary) × (le 1 b 3 ≡ edition) × (le 2 b 4 ≡ value) × (le 2 b 6 ≡ days)
settings-back fairness lock boundary edition value days x p q r e s t =
    let at = field_back (settings_body fairness lock boundary edition value days) x in
    (at 0 (lit< tt) p, at 1 (lit< tt) q, at 2 (lit< tt) r, at 3 (lit< tt) e, at 4 (lit< tt) s, at 5 (lit< tt) t)

pub base_back : (start end : ℕ) (x : List ℕ) → start < 2 ^ 32 → end < 2 ^ 32
    → (le 4 (body_of (base_body start end) ++ x) 0 ≡ start) × (le 4 (body_of (base_body start end) ++ x) 4 ≡ end)
base_back start end x p q = let at = field_back (base_body start end) x in (at 0 (lit< tt) p, at 1 (lit< tt) q)

pub person-back : (capacity prior : ℕ) (x : List ℕ) → capacity < 2 ^ 64 → prior < 2 ^ 32
    → (le 8 (body_of (person_body capacity prior) ++ x) 0 ≡ capacity) × (le 4 (body_of (person_body capacity prior) ++ x) 8 ≡ prior)
person-back capacity prior x p q = let at = field_back (person_body capacity prior) x in (at 0 (lit< tt) p, at 1 (lit< tt) q)

pub range_back : (person start end : ℕ) (x : List ℕ) → person < 65536 → start < 2 ^ 32 → end < 2 ^ 32
    → let b = body_of (range_body person start end) ++ x in (le 2 b 0 ≡ person) × (le 4 b 2 ≡ start) × (le 4 b 6 ≡ end)
range_back person start end x p q r =
    let at = field_back (range_body person start end) x in (at 0 (lit< tt) p, at 1 (lit< tt) q, at 2 (lit< tt) r)

pub freeze-back : (instant : ℕ) (x : List ℕ) → instant < 2 ^ 32 → le 4 (body_of (freeze_body instant) ++ x) 0 ≡ instant
freeze-back instant x p = field_back (freeze_body instant) x 0 (lit< tt) p

pub owner-back : (slot owner : ℕ) (x : List ℕ) → slot < 65536 → owner < 65536
    → (le 2 (body_of (owner_body slot owner) ++ x) 0 ≡ slot) × (le 2 (body_of (owner_body slot owner) ++ x) 2 ≡ owner)
owner-back slot owner x p q = let at = field_back (owner_body slot owner) x in (at 0 (lit< tt) p, at 1 (lit< tt) q)

pub draw-back : (draw first second : ℕ) (x : List ℕ) → draw < 65536 → first < 65536 → second < 65536
    → let b = body_of (draw_body draw first second) ++ x in (le 2 b 0 ≡ draw) × (le 2 b 2 ≡ first) × (le 2 b 4 ≡ second)
draw-back draw first second x p q r =
    let at = field_back (draw_body draw first second) x in (at 0 (lit< tt) p, at 1 (lit< tt) q, at 2 (lit< tt) r)
