-- What the walk accepts is a sequence of whole records that the layout allows, and every such sequence is accepted. Assumes nothing.
use mathlib.Core.Path.{◌≡◌, refl, sym, ap, ap₂, ◌∙◌, subst}
use mathlib.Core.Logic.{◌↔◌, ⊎_elim}
use mathlib.Core.Bool.{Bool, true, false, cond, ◌&&◌, and-false}
use mathlib.Core.List.{List, [], ◌∷◌, ◌++◌, append_assoc}
use Prim.Native.Nat.{ℕ, zero, suc, ◌+◌, ◌-◌, ◌*◌, ◌≤◌, ◌<◌}
use native.Mathlib.Nat.{suc-mul, zero-mul}
use native.Mathlib.Omega.{arith}
use borrow.Author.Tests.{le-leb, eq-eqb, eqb-true, ne_eqb}
use lib.Dec.{leb, eqb}
use lib.ListN.{length, get_or, take, drop, length-append, length-drop, take-append-drop, get_or-eq_default}
use lib.Seq.{drop-drop, take_at, drop_at, get_or-drop, get_or-take, length-take-le, drop-length}
use Rattle.paper.specs.Count.{all}
use Rattle.paper.proofs.Logic.{both, and-true, lt-or-ge}
use Rattle.paper.proofs.Count.{all-each, all_none}
use Rattle.records.specs.Fields.{le, le_bytes, Bytes}
use Rattle.records.specs.Records.{Layout, Rec, bytes_of, file_of, Allowed, record_of, InOrder, bodies, record_at}
use Rattle.records.specs.Records.{block_count, block_at, count_of, walk_ok}
use Rattle.records.proofs.Laid.{Laid, done, next, more, LayoutFits, IsFile}
use Rattle.records.proofs.Numbers.{le-front, le-back, le-written, written-le, length-bytes}
use Rattle.records.proofs.Walks.{lead-all, record-says, record_is, record-short, block_more, block-done, next-at}

-- ---- a record and what follows it

-- a field of what is left from a place on
pub le-drop : (n : ℕ) (s : List ℕ) (at k : ℕ) → le n (drop at s) k ≡ le n s (at + k)
unfolding le
le-drop zero s at k = refl
le-drop (suc n) s at k =
    let q : at + suc k ≡ suc (at + k) = omega arith in
    ap₂ (λ (x y : ℕ). x + 256 * y) (get_or-drop at s k 0) (le-drop n s at (suc k) ∙ ap (le n s) q)

-- what is left splits into n entries and the rest
split_off : (s : List ℕ) (at n : ℕ) → drop at s ≡ take n (drop at s) ++ drop (at + n) s
split_off s at n = sym (take-append-drop n (drop at s)) ∙ ap (λ (r : List ℕ). take n (drop at s) ++ r) (drop-drop n at s)

-- the body of the record at a place
unfoldable pub body_at : List ℕ → ℕ → ℕ → List ℕ
body_at s size at = take size (drop (at + 4) s)

pub length-body : (s : List ℕ) (size at : ℕ) → at + (4 + size) ≤ length s → length (body_at s size at) ≡ size
unfolding body_at
length-body s size at h = length-take-le size (drop (at + 4) s) (omega (arith, length-drop (at + 4) s))

pub body_bytes : (s : List ℕ) (size at : ℕ) → at + (4 + size) ≤ length s → Bytes s → Bytes (body_at s size at)
unfolding body_at
body_bytes s size at h b k =
    let body = take size (drop (at + 4) s) in
    ⊎_elim
    (λ (l : k < size). omega (arith, get_or-take size (drop (at + 4) s) k 0 l, get_or-drop (at + 4) s k 0, b (at + 4 + k)))
    (λ (g : size ≤ k).
    let past : length body ≤ k = omega (arith, length-body s size at h) in
    omega (arith, get_or-eq_default body 0 past))
    (lt-or-ge k size)

-- a field of that body
pub body-field : (s : List ℕ) (size at off n : ℕ) → at + (4 + size) ≤ length s → off + n ≤ size
    → le n (body_at s size at) off ≡ le n s (at + (4 + off))
unfolding body_at
body-field s size at off n h g =
    let d = drop (at + 4) s in
    let z : at + 4 + off ≡ at + (4 + off) = omega arith in
    sym (le-front n (take size d) (drop size d) off (omega (arith, length-body s size at h)))
    ∙ ap (λ (l : List ℕ). le n l off) (take-append-drop size d) ∙ le-drop n s (at + 4) off ∙ ap (le n s) z

-- the bytes from a record on are its own and then the rest
pub record-split : (s : List ℕ) (kind size at : ℕ) → Bytes s → record_at s kind size at ≡ true
    → drop at s ≡ bytes_of (record { kind = kind; body = body_at s size at }) ++ drop (at + (4 + size)) s
unfolding bytes_of body_at
record-split s kind size at b t =
    let r = record-says s kind size at t in
    let q : at + 2 + 2 ≡ at + 4 = omega arith in
    let z : at + 4 + size ≡ at + (4 + size) = omega arith in
    let l : take 2 (drop at s) ≡ le_bytes 2 (length (body_at s size at)) =
    written-le 2 s at b (omega (arith, r.0)) ∙ ap (le_bytes 2) (r.1 ∙ sym (length-body s size at r.0)) in
    let k : take 2 (drop (at + 2) s) ≡ le_bytes 2 kind = written-le 2 s (at + 2) b (omega (arith, r.0)) ∙ ap (le_bytes 2) r.2 in
    let tail : drop (at + 4) s ≡ body_at s size at ++ drop (at + (4 + size)) s =
    split_off s (at + 4) size ∙ ap (λ (n : ℕ). body_at s size at ++ drop n s) z in
    split_off s at 2
    ∙ ap₂ ◌++◌ l (split_off s (at + 2) 2 ∙ ap₂ ◌++◌ k (ap (λ (n : ℕ). drop n s) q ∙ tail))
    ∙ simp append_assoc

-- the records that a block counts are there
pub counted-at : (L : Layout) (s : List ℕ) (i j : ℕ) → j < count_of L s i
    → record_at s (L.first + i) (get_or L.sizes i 0) (block_at L s i + j * (4 + get_or L.sizes i 0)) ≡ true
unfolding count_of block_count
counted-at L s i j h = all-each _ (λ k. record_at s (L.first + i) (get_or L.sizes i 0) (block_at L s i + k * (4 + get_or L.sizes i 0)))
    (lead-all _ (length s)) j h

block-suc : (L : Layout) (s : List ℕ) (i : ℕ) → block_at L s (suc i) ≡ block_at L s i + count_of L s i * (4 + get_or L.sizes i 0)
unfolding block_at count_of
block-suc L s i = refl

-- no block begins past the end
block_in : (L : Layout) (s : List ℕ) (i n : ℕ) → n ≡ count_of L s i → block_at L s i ≤ length s
    → block_at L s i + n * (4 + get_or L.sizes i 0) ≤ length s
block_in L s i zero e h = omega (arith, zero-mul (4 + get_or L.sizes i 0))
block_in L s i (suc m) e h =
    omega (arith, (record-says s _ _ _ (counted-at L s i m (omega arith))).0, suc-mul m (4 + get_or L.sizes i 0))

pub block-le : (L : Layout) (s : List ℕ) (i : ℕ) → block_at L s i ≤ length s
unfolding block_at
block-le L s zero = omega arith
block-le L s (suc i) = omega (arith, block-suc L s i, block_in L s i (count_of L s i) refl (block-le L s i))

-- ---- what is accepted is a sequence that the layout allows

-- what is left from a place on is a sequence from kind first + i on
record From (L : Layout) (s : List ℕ) (i at : ℕ) : Type 0 where
  rest : List Rec
  laid : Laid L i rest
  whole : drop at s ≡ file_of rest

-- one record in front
from_one : (L : Layout) (s : List ℕ) (i at : ℕ) → Bytes s → i < L.kinds
    → record_at s (L.first + i) (get_or L.sizes i 0) at ≡ true → From L s i (at + (4 + get_or L.sizes i 0)) → From L s i at
unfolding file_of
from_one L s i at b h t f =
    let r = record-says s _ _ _ t in
    record {
      rest = record { kind = L.first + i; body = body_at s (get_or L.sizes i 0) at } ∷ f.rest;
      laid = more (body_at s (get_or L.sizes i 0) at) h (length-body s _ at r.0) (body_bytes s _ at r.0 b) f.laid;
      whole = record-split s (L.first + i) (get_or L.sizes i 0) at b t
          ∙ ap (λ (x : List ℕ). bytes_of (record { kind = L.first + i; body = body_at s (get_or L.sizes i 0) at }) ++ x) f.whole;
    }

-- the last n records of a block in front
from_block : (L : Layout) (s : List ℕ) (i n k : ℕ) → Bytes s → i < L.kinds → k + n ≡ count_of L s i
    → From L s i (block_at L s i + (k + n) * (4 + get_or L.sizes i 0)) → From L s i (block_at L s i + k * (4 + get_or L.sizes i 0))
from_block L s i zero k b h e f =
    let z : k + 0 ≡ k = omega arith in
    rw z at f
from_block L s i (suc n) k b h e f =
    let z : k + suc n ≡ k + 1 + n = omega arith in
    let w = 4 + get_or L.sizes i 0 in
    from_one L s i (block_at L s i + k * w) b h (counted-at L s i k (omega arith))
    (rw (next-at (block_at L s i) k w (block_at L s i + k * w) refl)
    (from_block L s i n (k + 1) b h (sym z ∙ e) (rw z at f)))

from-kind : (L : Layout) (s : List ℕ) (i : ℕ) → Bytes s → i < L.kinds → From L s (suc i) (block_at L s (suc i)) → From L s i (block_at L s i)
from-kind L s i b h f =
    let w = 4 + get_or L.sizes i 0 in
    let z : block_at L s i + 0 * w ≡ block_at L s i = omega (arith, zero-mul w) in
    let q : 0 + count_of L s i ≡ count_of L s i = omega arith in
    let here : From L s i (block_at L s i + (0 + count_of L s i) * w) =
    record {
      rest = f.rest;
      laid = next h f.laid;
      whole = ap (λ (n : ℕ). drop (block_at L s i + n * w) s) q ∙ ap (λ (n : ℕ). drop n s) (sym (block-suc L s i)) ∙ f.whole;
    } in
    rw z at (from_block L s i (count_of L s i) 0 b h q here)

from_end : (L : Layout) (s : List ℕ) (n i : ℕ) → Bytes s → i + n ≡ L.kinds → From L s L.kinds (block_at L s L.kinds)
    → From L s i (block_at L s i)
from_end L s zero i b e f =
    let z : L.kinds ≡ i = omega arith in
    subst (λ (k : ℕ). From L s k (block_at L s k)) z f
from_end L s (suc n) i b e f = from-kind L s i b (omega arith) (from_end L s n (suc i) b (omega arith) f)

-- a file that the walk accepts
pub accepted-laid : (L : Layout) (limit : ℕ) (s : List ℕ) → Bytes s → walk_ok L limit s ≡ true → IsFile L s
unfolding walk_ok file_of block_at
accepted-laid L limit s b t =
    let x = both (leb (length s) limit) (eqb (block_at L s L.kinds) (length s)) t in
    let e = eqb-true (block_at L s L.kinds) (length s) x.1 in
    let f = from_end L s L.kinds 0 b (omega arith)
    (record { rest = []; laid = done; whole = ap (λ (n : ℕ). drop n s) e ∙ drop-length s }) in
    record { records = f.rest; laid = f.laid; whole = f.whole }

-- ---- every sequence that the layout allows is accepted

length-bytes_of : (r : Rec) → length (bytes_of r) ≡ 4 + length r.body
unfolding bytes_of
length-bytes_of r =
    length-append (le_bytes 2 (length r.body)) (le_bytes 2 r.kind ++ r.body)
    ∙ omega (arith, length-bytes 2 (length r.body), length-append (le_bytes 2 r.kind) r.body, length-bytes 2 r.kind)

-- the size and the kind of a record that was written are read
written-size : (r : Rec) (x : List ℕ) → length r.body < 65536 → le 2 (bytes_of r ++ x) 0 ≡ length r.body
unfolding bytes_of
written-size r x h =
    ap (λ (l : List ℕ). le 2 l 0) (append_assoc (le_bytes 2 (length r.body)) (le_bytes 2 r.kind ++ r.body) x)
    ∙ le-written 2 (length r.body) ((le_bytes 2 r.kind ++ r.body) ++ x) h

written-kind : (r : Rec) (x : List ℕ) → r.kind < 65536 → le 2 (bytes_of r ++ x) 2 ≡ r.kind
unfolding bytes_of
written-kind r x h =
    let n = le_bytes 2 (length r.body) in
    let z : length n + 0 ≡ 2 = omega (arith, length-bytes 2 (length r.body)) in
    ap (λ (l : List ℕ). le 2 l 2) (append_assoc n (le_bytes 2 r.kind ++ r.body) x)
    ∙ ap (le 2 (n ++ ((le_bytes 2 r.kind ++ r.body) ++ x))) (sym z)
    ∙ le-back 2 n ((le_bytes 2 r.kind ++ r.body) ++ x) 0
    ∙ ap (λ (l : List ℕ). le 2 l 0) (append_assoc (le_bytes 2 r.kind) r.body x)
    ∙ le-written 2 r.kind (r.body ++ x) h

-- at a place from which a record and then x follow
module _ (s : List ℕ) (at : ℕ) (r : Rec) (x : List ℕ) (e : drop at s ≡ bytes_of r ++ x) where
  pub kind-there : r.kind < 65536 → le 2 s (at + 2) ≡ r.kind
  kind-there h = sym (le-drop 2 s at 2) ∙ ap (λ (l : List ℕ). le 2 l 2) e ∙ written-kind r x h

  pub size-there : length r.body < 65536 → le 2 s at ≡ length r.body
  size-there h =
      let z : at ≡ at + 0 = omega arith in
      ap (le 2 s) z ∙ sym (le-drop 2 s at 0) ∙ ap (λ (l : List ℕ). le 2 l 0) e ∙ written-size r x h

  pub room-there : at + (4 + length r.body) ≤ length s
  room-there =
      omega (arith, length-drop at s, ap length e, length-append (bytes_of r) x, length-bytes_of r)

  record-there : (size : ℕ) → length r.body ≡ size → size < 65536 → r.kind < 65536 → record_at s r.kind size at ≡ true
  record-there size q h k =
      record_is s r.kind size at (omega (arith, room-there)) (size-there (omega arith) ∙ q) (kind-there k)

  pub body-there : (size : ℕ) → length r.body ≡ size → r.body ≡ body_at s size at
  unfolding body_at bytes_of le_bytes
  body-there size q =
      sym (ap (take size) (sym (drop-drop 4 at s) ∙ ap (drop 4) e) ∙ take_at r.body x size q)

  pub rest-there : (size : ℕ) → length r.body ≡ size → drop (at + (4 + size)) s ≡ x
  rest-there size q =
      sym (drop-drop (4 + size) at s) ∙ ap (drop (4 + size)) e
      ∙ drop_at (bytes_of r) x (4 + size) (length-bytes_of r ∙ ap (λ (n : ℕ). 4 + n) q)

not-kind : (s : List ℕ) (kind size at there : ℕ) → le 2 s (at + 2) ≡ there → (there ≡ kind → ⊥) → record_at s kind size at ≡ false
unfolding record_at
not-kind s kind size at there e n =
    ap (λ (b : Bool). leb (at + (4 + size)) (length s) && (eqb (le 2 s at) size && b)) (ne_eqb (le 2 s (at + 2)) kind (λ z. n (sym e ∙ z)))
    ∙ ap (λ (b : Bool). leb (at + (4 + size)) (length s) && b) (and-false (eqb (le 2 s at) size))
    ∙ and-false (leb (at + (4 + size)) (length s))

-- no record of a lower kind stands where a sequence begins
lower-not : (L : Layout) (s : List ℕ) (at size k i : ℕ) (rs : List Rec) → LayoutFits L → Laid L i rs → k < i → drop at s ≡ file_of rs
    → record_at s (L.first + k) size at ≡ false
unfolding file_of
lower-not L s at size k i rs F done h e =
    record-short s (L.first + k) size at (omega (arith, length-drop at s, ap length e))
lower-not L s at size k i rs F (next g l) h e = lower-not L s at size k (suc i) rs F l (omega arith) e
lower-not L s at size k i rs F (more {rs = x} body g q b l) h e =
    let r : Rec = record { kind = L.first + i; body = body } in
    not-kind s (L.first + k) size at (L.first + i)
    (kind-there s at r (file_of x) e (omega (arith, F.kinds))) (λ z. omega arith)

count-is : (L : Layout) (s : List ℕ) (i j : ℕ) → j ≡ block_count s (L.first + i) (get_or L.sizes i 0) (block_at L s i) → j ≡ count_of L s i
unfolding count_of
count-is L s i j e = e

-- the bodies of a record's kind, and of another
bodies-own : (r : Rec) (rs : List Rec) → bodies r.kind (r ∷ rs) ≡ r.body ∷ bodies r.kind rs
unfolding bodies
bodies-own r rs =
    ap (λ (b : Bool). cond b (r.body ∷ bodies r.kind rs) (bodies r.kind rs)) (eq-eqb r.kind r.kind refl)

bodies-other : (kind : ℕ) (r : Rec) (rs : List Rec) → (r.kind ≡ kind → ⊥) → bodies kind (r ∷ rs) ≡ bodies kind rs
unfolding bodies
bodies-other kind r rs n = ap (λ (b : Bool). cond b (r.body ∷ bodies kind rs) (bodies kind rs)) (ne_eqb r.kind kind n)

-- none of a sequence's records is of a lower kind
bodies-below : (L : Layout) (k i : ℕ) (rs : List Rec) → Laid L i rs → k < i → bodies (L.first + k) rs ≡ []
unfolding bodies
bodies-below L k i rs done h = refl
bodies-below L k i rs (next g l) h = bodies-below L k (suc i) rs l (omega arith)
bodies-below L k i rs (more {rs = x} body g q b l) h =
    bodies-other (L.first + k) (record { kind = L.first + i; body = body }) x (λ e. omega arith) ∙ bodies-below L k i x l h

-- what the walk knows when it has passed the records of kind first + i: j of them before `at`, and those of rs from there on
record Passed (L : Layout) (s : List ℕ) (i j at : ℕ) (rs : List Rec) : Type 0 where
  count : count_of L s i ≡ j + length (bodies (L.first + i) rs)
  there : (k : ℕ) → k < length (bodies (L.first + i) rs)
      → get_or (bodies (L.first + i) rs) k [] ≡ body_at s (get_or L.sizes i 0) (at + k * (4 + get_or L.sizes i 0))
  rest : List Rec
  laid : Laid L (suc i) rest
  whole : drop (block_at L s (suc i)) s ≡ file_of rest
  same : (m : ℕ) → i < m → bodies (L.first + m) rest ≡ bodies (L.first + m) rs

-- the record at `at`, and then those that follow it
passed-at : (s : List ℕ) (at size : ℕ) (body : List ℕ) (others : List (List ℕ)) → body ≡ body_at s size at
    → ((k : ℕ) → k < length others → get_or others k [] ≡ body_at s size (at + (4 + size) + k * (4 + size)))
    → (k : ℕ) → k < suc (length others) → get_or (body ∷ others) k [] ≡ body_at s size (at + k * (4 + size))
passed-at s at size body others e f zero h =
    let z : at ≡ at + 0 * (4 + size) = omega (arith, zero-mul (4 + size)) in
    e ∙ ap (body_at s size) z
passed-at s at size body others e f (suc k) h =
    let z : at + (4 + size) + k * (4 + size) ≡ at + suc k * (4 + size) = omega (arith, suc-mul k (4 + size)) in
    f k (omega arith) ∙ ap (body_at s size) z

passed : (L : Layout) (s : List ℕ) (i j at : ℕ) (rs : List Rec) → LayoutFits L → i < L.kinds → Laid L i rs
    → at ≡ block_at L s i + j * (4 + get_or L.sizes i 0) → at ≤ length s
    → all j (λ k. record_at s (L.first + i) (get_or L.sizes i 0) (block_at L s i + k * (4 + get_or L.sizes i 0))) ≡ true
    → drop at s ≡ file_of rs → Passed L s i j at rs
unfolding file_of
passed L s i j at rs F m done p h a e = absurd (omega arith)
passed L s i j at rs F m (next g l) p h a e =
    let w = 4 + get_or L.sizes i 0 in
    let none = bodies-below L i (suc i) rs l (omega arith) in
    let f = lower-not L s at (get_or L.sizes i 0) i (suc i) rs F l (omega arith) e in
    let n : j ≡ count_of L s i = count-is L s i j (block-done s (L.first + i) (get_or L.sizes i 0) (block_at L s i) j at p h f a) in
    let here : at ≡ block_at L s (suc i) = p ∙ ap (λ (m : ℕ). block_at L s i + m * w) n ∙ sym (block-suc L s i) in
    record {
      count = omega (arith, n, ap length none);
      there = λ k b. absurd (omega (arith, ap length none));
      rest = rs;
      laid = l;
      whole = ap (λ (n : ℕ). drop n s) (sym here) ∙ e;
      same = λ m b. refl;
    }
passed L s i j at rs F m (more {rs = x} body g q b l) p h a e =
    let r : Rec = record { kind = L.first + i; body = body } in
    let size = get_or L.sizes i 0 in
    let t = record-there s at r (file_of x) e size q (F.sizes i) (omega (arith, F.kinds)) in
    let P = passed L s i (j + 1) (at + (4 + size)) x F m l (next-at (block_at L s i) j (4 + size) at p) (record-says s _ _ _ t).0
    (block_more s (L.first + i) size (block_at L s i) j at p t a) (rest-there s at r (file_of x) e size q) in
    let own = bodies-own r x in
    record {
      count = omega (arith, P.count, ap length own);
      there = λ k d.
          ap (λ (y : List (List ℕ)). get_or y k []) own
          ∙ passed-at s at size body (bodies (L.first + i) x) (body-there s at r (file_of x) e size q) P.there k
          (omega (arith, ap length own));
      rest = P.rest;
      laid = P.laid;
      whole = P.whole;
      same = λ k d. P.same k d ∙ sym (bodies-other (L.first + k) r x (λ z. omega arith));
    }

-- where the walk stands before kind first + k: the sequence from there on
record Reached (L : Layout) (s : List ℕ) (rs : List Rec) (k : ℕ) : Type 0 where
  rest : List Rec
  laid : Laid L k rest
  whole : drop (block_at L s k) s ≡ file_of rest
  same : (m : ℕ) → k ≤ m → bodies (L.first + m) rest ≡ bodies (L.first + m) rs

laid-last : (L : Layout) (i : ℕ) (rs : List Rec) → Laid L i rs → L.kinds ≤ i → rs ≡ []
laid-last L i rs done h = refl
laid-last L i rs (next g l) h = absurd (omega arith)
laid-last L i rs (more body g q b l) h = absurd (omega arith)

module _ (L : Layout) (s : List ℕ) (rs : List Rec) (F : LayoutFits L) (l : Laid L 0 rs) (e : s ≡ file_of rs) where
  pass : (k : ℕ) → k < L.kinds → (R : Reached L s rs k) → Passed L s k 0 (block_at L s k) R.rest
  pass k h R =
      passed L s k 0 (block_at L s k) R.rest F h R.laid (omega (arith, zero-mul (4 + get_or L.sizes k 0)))
      (block-le L s k) (all_none _) R.whole

  reach : (k : ℕ) → k ≤ L.kinds → Reached L s rs k
  unfolding block_at
  reach zero h = record { rest = rs; laid = l; whole = e; same = λ m g. refl }
  reach (suc k) h =
      let R = reach k (omega arith) in
      let P = pass k h R in
      record {
        rest = P.rest;
        laid = P.laid;
        whole = P.whole;
        same = λ m g. P.same m g ∙ R.same m (omega arith);
      }

  -- the walk ends at the end
  laid-ends : block_at L s L.kinds ≡ length s
  unfolding file_of
  laid-ends =
      let R = reach L.kinds (omega arith) in
      let z : drop (block_at L s L.kinds) s ≡ [] = R.whole ∙ ap file_of (laid-last L L.kinds R.rest R.laid (omega arith)) in
      omega (arith, block-le L s L.kinds, length-drop (block_at L s L.kinds) s, ap length z)

  -- it counts the records of each kind
  pub laid-count : (i : ℕ) → i < L.kinds → count_of L s i ≡ length (bodies (L.first + i) rs)
  laid-count i h =
      let R = reach i (omega arith) in
      omega (arith, (pass i h R).count, ap length (R.same i (omega arith)))

  -- and reads their fields from their bodies
  pub laid-field : (i k off n : ℕ) → i < L.kinds → k < length (bodies (L.first + i) rs) → off + n ≤ get_or L.sizes i 0
      → le n s (block_at L s i + k * (4 + get_or L.sizes i 0) + (4 + off)) ≡ le n (get_or (bodies (L.first + i) rs) k []) off
  laid-field i k off n h g r =
      let R = reach i (omega arith) in
      let size = get_or L.sizes i 0 in
      let at = block_at L s i + k * (4 + size) in
      let same = R.same i (omega arith) in
      let body : get_or (bodies (L.first + i) rs) k [] ≡ body_at s size at =
      ap (λ (y : List (List ℕ)). get_or y k []) (sym same) ∙ (pass i h R).there k (omega (arith, ap length same)) in
      let room = (record-says s _ _ _ (counted-at L s i k (omega (arith, laid-count i h)))).0 in
      sym (ap (λ (y : List ℕ). le n y off) body ∙ body-field s size at off n room r)

-- the file of a sequence within the limit is accepted
pub laid-accepted : (L : Layout) (limit : ℕ) (rs : List Rec) → LayoutFits L → Laid L 0 rs → length (file_of rs) ≤ limit
    → walk_ok L limit (file_of rs) ≡ true
unfolding walk_ok
laid-accepted L limit rs F l h =
    let s = file_of rs in
    and-true (leb (length s) limit) (eqb (block_at L s L.kinds) (length s)) (le-leb _ _ h) (eq-eqb _ _ (laid-ends L s rs F l refl))

-- ---- the same sequences, record by record

-- a sequence from a higher kind on is one from a lower kind on
climb : (L : Layout) (n i : ℕ) (rs : List Rec) → i + n ≤ L.kinds → Laid L (i + n) rs → Laid L i rs
climb L zero i rs h l = let z : i + 0 ≡ i = omega arith in rw z at l
climb L (suc n) i rs h l =
    let z : i + suc n ≡ suc i + n = omega arith in
    let g : i < L.kinds = omega arith in
    next g (climb L n (suc i) rs (omega arith) (rw z at l))

ordered-laid : (L : Layout) (i : ℕ) (rs : List Rec) → i ≤ L.kinds → InOrder L rs → (0 < length rs → L.first + i ≤ (record_of rs 0).kind)
    → Laid L i rs
ordered-laid L i [] h O a =
    let z : L.kinds ≡ i + (L.kinds - i) = omega arith in
    climb L (L.kinds - i) i [] (omega arith) (subst (λ (k : ℕ). Laid L k []) z done)
ordered-laid L i (r ∷ rs) h O a =
    let A = O.each 0 (omega arith) in
    let j = r.kind - L.first in
    let k : L.first + j ≡ r.kind = omega (arith, A.least) in
    let z : j ≡ i + (j - i) = omega (arith, a (omega arith), A.least) in
    let l : Laid L j rs = ordered-laid L j rs (omega (arith, A.most))
    (record { each = λ m g. O.each (suc m) (omega arith); rise = λ m g. O.rise (suc m) (omega arith) })
    (λ g. omega (arith, O.rise 0 (omega arith))) in
    let m : j < L.kinds = omega (arith, A.most, A.least) in
    let here : Laid L j (record { kind = L.first + j; body = r.body } ∷ rs) = more r.body m A.size A.bytes l in
    climb L (j - i) i (r ∷ rs) (omega arith)
    (subst (λ (n : ℕ). Laid L n (r ∷ rs)) z (subst (λ (n : ℕ). Laid L j (record { kind = n; body = r.body } ∷ rs)) k here))

laid-least : (L : Layout) (i : ℕ) (rs : List Rec) → Laid L i rs → 0 < length rs → L.first + i ≤ (record_of rs 0).kind
laid-least L i rs done h = absurd (omega arith)
laid-least L i rs (next g l) h = omega (arith, laid-least L (suc i) rs l h)
laid-least L i rs (more body g q b l) h = omega arith

laid_each : (L : Layout) (i : ℕ) (rs : List Rec) → Laid L i rs → (k : ℕ) → k < length rs → Allowed L (record_of rs k)
laid_each L i rs done k h = absurd (omega arith)
laid_each L i rs (next g l) k h = laid_each L (suc i) rs l k h
laid_each L i rs (more body g q b l) zero h =
    let z : i ≡ L.first + i - L.first = omega arith in
    record { least = omega arith; most = omega arith; size = q ∙ ap (λ (k : ℕ). get_or L.sizes k 0) z; bytes = b }
laid_each L i rs (more {rs = x} body g q b l) (suc k) h = laid_each L i x l k (omega arith)

laid-rise : (L : Layout) (i : ℕ) (rs : List Rec) → Laid L i rs → (k : ℕ) → suc k < length rs
    → (record_of rs k).kind ≤ (record_of rs (suc k)).kind
laid-rise L i rs done k h = absurd (omega arith)
laid-rise L i rs (next g l) k h = laid-rise L (suc i) rs l k h
laid-rise L i rs (more {rs = x} body g q b l) zero h = laid-least L i x l (omega arith)
laid-rise L i rs (more {rs = x} body g q b l) (suc k) h = laid-rise L i x l k (omega arith)

-- a sequence is laid out exactly where each record is allowed and kinds never fall
pub laid-ordered : (L : Layout) (rs : List Rec) → Laid L 0 rs ↔ InOrder L rs
laid-ordered L rs = (
  λ l. record { each = laid_each L 0 rs l; rise = laid-rise L 0 rs l },
  λ O. ordered-laid L 0 rs (omega arith) O (λ h. omega (arith, (O.each 0 h).least)),
)

-- ---- where the records of a kind lie

pub block-end : (L : Layout) (s : List ℕ) (i : ℕ) → block_at L s i + count_of L s i * (4 + get_or L.sizes i 0) ≤ length s
block-end L s i = block_in L s i (count_of L s i) refl (block-le L s i)

-- a field of a counted record lies within the file
pub field_room : (L : Layout) (s : List ℕ) (i k off n : ℕ) → k < count_of L s i → off + n ≤ get_or L.sizes i 0
    → block_at L s i + k * (4 + get_or L.sizes i 0) + (4 + off) + n ≤ length s
field_room L s i k off n h g = omega (arith, (record-says s _ _ _ (counted-at L s i k h)).0)
