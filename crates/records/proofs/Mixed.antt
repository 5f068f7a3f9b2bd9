-- Laws of one record at a place and of records one after the other, whatever their kinds. Assumes nothing.
use mathlib.Core.Path.{◌≡◌, refl, sym, ap, ap₂, ◌∙◌}
use mathlib.Core.Bool.{Bool, true, false, cond}
use mathlib.Core.List.{List, [], ◌∷◌, ◌++◌, append_assoc}
use Prim.Native.Nat.{ℕ, zero, suc, ◌+◌, ◌≤◌, ◌<◌}
use native.Mathlib.Omega.{arith}
use lib.ListN.{length, get_or, drop, length-drop}
use Rattle.paper.proofs.Logic.{by-test}
use Rattle.records.specs.Fields.{le, Bytes}
use Rattle.records.specs.Records.{Rec, bytes_of, file_of, record_of}
use Rattle.records.specs.declared.Head.TheVariants as head
use Rattle.records.specs.Heads.{found_at, whole_at, head_at, place_of}
use Rattle.records.proofs.Sequences.{body_at, length-body, body_bytes, body-field, record-split}
use Rattle.records.proofs.Sequences.{kind-there, size-there, room-there, body-there, rest-there}
use Rattle.records.proofs.Walks.{record-says, record_is, record-short}

-- ---- a whole record, and its head

pub whole_says : (s : List ℕ) (at : ℕ) → whole_at s at ≡ true → at + (4 + le 2 s at) ≤ length s
unfolding whole_at
whole_says s at t = (record-says s (le 2 s (at + 2)) (le 2 s at) at t).0

pub whole_is : (s : List ℕ) (at : ℕ) → at + (4 + le 2 s at) ≤ length s → whole_at s at ≡ true
unfolding whole_at
whole_is s at h = record_is s (le 2 s (at + 2)) (le 2 s at) at h refl refl

pub whole-not : (s : List ℕ) (at : ℕ) → length s < at + (4 + le 2 s at) → whole_at s at ≡ false
unfolding whole_at
whole-not s at h = record-short s (le 2 s (at + 2)) (le 2 s at) at h

-- what a reader of the head answers
pub head-whole : (s : List ℕ) (at size kind : ℕ) → size ≡ le 2 s at → kind ≡ le 2 s (at + 2) → at + (4 + size) ≤ length s
    → head.Whole size kind ≡ head_at s at
unfolding head_at
head-whole s at size kind e k h =
    let w = whole_is s at (omega arith) in
    ap₂ head.Whole e k ∙ sym (ap (λ (b : Bool). cond b (head.Whole (le 2 s at) (le 2 s (at + 2))) head.Nothing) w)

pub head-cut : (s : List ℕ) (at : ℕ) → length s < at + (4 + le 2 s at) → head.Nothing ≡ head_at s at
unfolding head_at
head-cut s at h = sym (ap (λ (b : Bool). cond b (head.Whole (le 2 s at) (le 2 s (at + 2))) head.Nothing) (whole-not s at h))

-- and what its answer says
pub head-says : (s : List ℕ) (at size kind : ℕ) → head_at s at ≡ head.Whole size kind
    → (whole_at s at ≡ true) × (size ≡ le 2 s at) × (kind ≡ le 2 s (at + 2))
unfolding head_at
head-says s at size kind e =
    let found = head.Whole (le 2 s at) (le 2 s (at + 2)) in
    by-test (whole_at s at) _
    (λ t. let q : found ≡ head.Whole size kind = sym (ap (λ (b : Bool). cond b found head.Nothing) t) ∙ e in (t, cc, cc))
    (λ f.
    let q : head.Nothing ≡ head.Whole size kind = sym (ap (λ (b : Bool). cond b found head.Nothing) f) ∙ e in
    absurd (let z : ◌≡◌ {A = ℕ} 0 1 = cc in omega arith))

pub head-none : (s : List ℕ) (at : ℕ) → head_at s at ≡ head.Nothing → whole_at s at ≡ false
unfolding head_at
head-none s at e =
    let found = head.Whole (le 2 s at) (le 2 s (at + 2)) in
    by-test (whole_at s at) _
    (λ t.
    let q : found ≡ head.Nothing = sym (ap (λ (b : Bool). cond b found head.Nothing) t) ∙ e in
    absurd (let z : ◌≡◌ {A = ℕ} 0 1 = cc in omega arith))
    (λ f. f)

-- the body of a whole record: its length, its bytes, its fields
pub found-length : (s : List ℕ) (at : ℕ) → whole_at s at ≡ true → length (found_at s at).body ≡ le 2 s at
unfolding found_at body_at
found-length s at t = length-body s (le 2 s at) at (whole_says s at t)

pub found-bytes : (s : List ℕ) (at : ℕ) → whole_at s at ≡ true → Bytes s → Bytes (found_at s at).body
unfolding found_at body_at
found-bytes s at t b = body_bytes s (le 2 s at) at (whole_says s at t) b

pub found-field : (s : List ℕ) (at off n : ℕ) → whole_at s at ≡ true → off + n ≤ le 2 s at
    → le n (found_at s at).body off ≡ le n s (at + (4 + off))
unfolding found_at body_at
found-field s at off n t h = body-field s (le 2 s at) at off n (whole_says s at t) h

pub found-byte : (s : List ℕ) (at k : ℕ) → whole_at s at ≡ true → k < le 2 s at → get_or (found_at s at).body k 0 ≡ get_or s (at + (4 + k)) 0
unfolding le
found-byte s at k t h = omega (arith, found-field s at k 1 t (omega arith))

-- ---- a record and what follows it

pub found-split : (s : List ℕ) (at : ℕ) → Bytes s → whole_at s at ≡ true
    → drop at s ≡ bytes_of (found_at s at) ++ drop (at + (4 + le 2 s at)) s
unfolding whole_at found_at body_at
found-split s at b t = record-split s (le 2 s (at + 2)) (le 2 s at) at b t

-- a record's size and kind fit their two bytes
pub record RecFits (r : Rec) : Type 0 where
  pub size : length r.body < 65536
  pub kind : r.kind < 65536

-- r is found at a place, and x follows it
pub record Found (s : List ℕ) (at : ℕ) (r : Rec) (x : List ℕ) : Type 0 where
  pub whole : whole_at s at ≡ true
  pub is : found_at s at ≡ r
  pub rest : drop (at + (4 + le 2 s at)) s ≡ x

pub found-there : (s : List ℕ) (at : ℕ) (r : Rec) (x : List ℕ) → RecFits r → drop at s ≡ bytes_of r ++ x → Found s at r x
unfolding found_at body_at
found-there s at r x F e =
    let size = size-there s at r x e F.size in
    let kind = kind-there s at r x e F.kind in
    record {
      whole = whole_is s at (omega (arith, room-there s at r x e));
      is = ap₂ (λ (k : ℕ) (l : List ℕ). record { kind = k; body = l }) kind (sym (body-there s at r x e (le 2 s at) (sym size)));
      rest = rest-there s at r x e (le 2 s at) (sym size);
    }

-- ---- records one after the other

place-suc : (s : List ℕ) (k : ℕ) → place_of s (suc k) ≡ place_of s k + (4 + le 2 s (place_of s k))
unfolding place_of
place-suc s k = refl

pub place_none : (s : List ℕ) → place_of s 0 ≡ 0
unfolding place_of
place_none s = refl

-- the place after a whole record
pub place-more : (s : List ℕ) (k at size : ℕ) → at ≡ place_of s k → size ≡ le 2 s at → at + (4 + size) ≡ place_of s (k + 1)
place-more s k at size e z =
    let q : k + 1 ≡ suc k = omega arith in
    let t : le 2 s at ≡ le 2 s (place_of s k) = ap (le 2 s) e in
    sym (ap (place_of s) q ∙ place-suc s k ∙ omega arith)

-- the n records from record k on
unfoldable pub found_from : List ℕ → ℕ → ℕ → List Rec
found_from s k zero = []
found_from s k (suc n) = found_at s (place_of s k) ∷ found_from s (suc k) n

pub found-count : (s : List ℕ) (k n : ℕ) → length (found_from s k n) ≡ n
unfolding found_from
found-count s k zero = refl
found-count s k (suc n) = ap suc (found-count s (suc k) n)

pub found-at : (s : List ℕ) (k n j : ℕ) → j < n → record_of (found_from s k n) j ≡ found_at s (place_of s (k + j))
unfolding found_from
found-at s k zero j h = absurd (omega arith)
found-at s k (suc n) zero h = let z : k ≡ k + 0 = omega arith in ap (λ (i : ℕ). found_at s (place_of s i)) z
found-at s k (suc n) (suc j) h =
    let z : suc k + j ≡ k + suc j = omega arith in
    found-at s (suc k) n j (omega arith) ∙ ap (λ (i : ℕ). found_at s (place_of s i)) z

-- where each of them stands whole, the bytes are theirs and then the rest
pub found-file : (s : List ℕ) (k n : ℕ) → Bytes s → ((j : ℕ) → j < n → whole_at s (place_of s (k + j)) ≡ true)
    → drop (place_of s k) s ≡ file_of (found_from s k n) ++ drop (place_of s (k + n)) s
unfolding found_from file_of
found-file s k zero b f = let z : k ≡ k + 0 = omega arith in ap (λ (i : ℕ). drop (place_of s i) s) z
found-file s k (suc n) b f =
    let z : k + 0 ≡ k = omega arith in
    let w : suc k + n ≡ k + suc n = omega arith in
    let t : whole_at s (place_of s k) ≡ true = rw z at (f 0 (omega arith)) in
    let rest = found-file s (suc k) n b
    (λ j h. let q : k + suc j ≡ suc k + j = omega arith in rw q at (f (suc j) (omega arith))) in
    found-split s (place_of s k) b t
    ∙ ap (λ (x : List ℕ). bytes_of (found_at s (place_of s k)) ++ x)
    (ap (λ (i : ℕ). drop i s) (sym (place-suc s k)) ∙ rest ∙ ap (λ (i : ℕ). file_of (found_from s (suc k) n) ++ drop (place_of s i) s) w)
    ∙ sym (append_assoc (bytes_of (found_at s (place_of s k))) (file_of (found_from s (suc k) n)) (drop (place_of s (k + suc n)) s))

-- what a reader finds of a sequence that stands from record k on to the end
pub record Reads (s : List ℕ) (k : ℕ) (rs : List Rec) : Type 0 where
  pub whole : (j : ℕ) → j < length rs → whole_at s (place_of s (k + j)) ≡ true
  pub is : (j : ℕ) → j < length rs → found_at s (place_of s (k + j)) ≡ record_of rs j
  pub ends : place_of s (k + length rs) ≡ length s

pub file-reads : (s : List ℕ) (k : ℕ) (rs : List Rec) → ((j : ℕ) → j < length rs → RecFits (record_of rs j)) → place_of s k ≤ length s
    → drop (place_of s k) s ≡ file_of rs → Reads s k rs
unfolding file_of
file-reads s k [] F h e =
    let z : k + 0 ≡ k = omega arith in
    record {
      whole = λ j l. absurd (omega arith);
      is = λ j l. absurd (omega arith);
      ends = ap (place_of s) z ∙ omega (arith, length-drop (place_of s k) s, ap length e);
    }
file-reads s k (r ∷ rs) F h e =
    let there = found-there s (place_of s k) r (file_of rs) (F 0 (omega arith)) e in
    let room : place_of s (suc k) ≤ length s = omega (arith, place-suc s k, whole_says s (place_of s k) there.whole) in
    let R = file-reads s (suc k) rs (λ j l. F (suc j) (omega arith)) room
    (ap (λ (i : ℕ). drop i s) (place-suc s k) ∙ there.rest) in
    let w : k + suc (length rs) ≡ suc k + length rs = omega arith in
    record {
      whole = first_then k (λ i. whole_at s (place_of s i) ≡ true) there.whole R.whole;
      is = both-parts s k r rs there.is R.is;
      ends = ap (place_of s) w ∙ R.ends;
    }
  where
    first_then : (k : ℕ) {n : ℕ} (P : ℕ → Type 0) → P k → ((j : ℕ) → j < n → P (suc k + j)) → (j : ℕ) → j < suc n → P (k + j)
    first_then k P p f zero h = let z : k ≡ k + 0 = omega arith in rw z at p
    first_then k P p f (suc j) h = let z : suc k + j ≡ k + suc j = omega arith in rw z at (f j (omega arith))

    both-parts : (s : List ℕ) (k : ℕ) (r : Rec) (rs : List Rec) → found_at s (place_of s k) ≡ r
        → ((j : ℕ) → j < length rs → found_at s (place_of s (suc k + j)) ≡ record_of rs j)
        → (j : ℕ) → j < suc (length rs) → found_at s (place_of s (k + j)) ≡ record_of (r ∷ rs) j
    both-parts s k r rs p f zero h = let z : k + 0 ≡ k = omega arith in ap (λ (i : ℕ). found_at s (place_of s i)) z ∙ p
    both-parts s k r rs p f (suc j) h =
        let z : k + suc j ≡ suc k + j = omega arith in
        ap (λ (i : ℕ). found_at s (place_of s i)) z ∙ f j (omega arith)

-- nothing stands whole at the end
pub none-at-end : (s : List ℕ) (at : ℕ) → at ≡ length s → whole_at s at ≡ false
none-at-end s at e = whole-not s at (omega arith)

-- a file and one record more
pub file-more : (rs : List Rec) (r : Rec) → file_of (rs ++ (r ∷ [])) ≡ file_of rs ++ bytes_of r
unfolding file_of
file-more [] r = simp append-nil
  where
    append-nil : (l : List ℕ) → l ++ [] ≡ l
    append-nil [] = refl
    append-nil (v ∷ l) = ap (λ (t : List ℕ). v ∷ t) (append-nil l)
file-more (q ∷ rs) r =
    ap (λ (x : List ℕ). bytes_of q ++ x) (file-more rs r) ∙ sym (append_assoc (bytes_of q) (file_of rs) (bytes_of r))
