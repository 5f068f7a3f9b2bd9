-- The used bytes of a store as a sequence of right records: 13 both ways, and what each number stands for. Assumes nothing.
use mathlib.Core.Path.{◌≡◌, refl, sym, ap, ap₂, ◌∙◌, subst}
use mathlib.Core.Bool.{Bool, true, cond, ◌&&◌}
use mathlib.Core.List.{List, [], ◌∷◌, ◌++◌}
use mathlib.Core.Logic.{◌↔◌, ⊎_elim}
use Prim.Native.Nat.{ℕ, zero, suc, ◌+◌, ◌-◌, ◌*◌, ◌/◌, ◌%◌, ◌≤◌, ◌<◌}
use native.Mathlib.Omega.{arith}
use borrow.Author.Tests.{leb-true, eq-eqb, eqb-true}
use lib.Dec.{eqb, lit<}
use lib.ListN.{length, drop}
use lib.Seq.{drop-length}
use Rattle.paper.proofs.Logic.{by-test, both, five, lt-or-ge}
use Rattle.records.specs.Fields.{le, le_bytes, Bytes}
use Rattle.records.specs.Records.{Rec, record_of, bytes_of, file_of}
use Rattle.records.specs.Heads.{found_at, whole_at, place_of}
use Rattle.records.proofs.Mixed.{RecFits, found_from, found-count, found-at, found-file, Reads, file-reads, none-at-end, place_none}
use Rattle.units.specs.declared.Settings.{Settings}
use Rattle.units.specs.Settings.{settings_ok, boundary_ok}
use Rattle.store.specs.declared.Kept.TheVariants as kept
use Rattle.store.specs.Layout.{record_right, right_at, count_in, is_store, RightRecord, StoreOf, IsStore}
use Rattle.store.specs.Figures.{figures_of, kept_of, kept_in, body_of, settings_record}
use Rattle.store.proofs.Right.{right-whole, right_is, right-not, right-record, said-right}
use Rattle.store.proofs.Counted.{counted-right, counted-most, counted-full, counted_is}
use Rattle.store.proofs.Reading.{kept-figures, number-low, number-high, number-kept}

-- ---- bytes that are laid out right are a sequence of right records

ok-ends : (s : List ℕ) → is_store s ≡ true → place_of s (count_in s) ≡ length s
unfolding is_store
ok-ends s t = eqb-true _ _ t

pub ok-store : (s : List ℕ) → Bytes s → is_store s ≡ true → IsStore s
ok-store s b t =
    let n = count_in s in
    let rs = found_from s 0 n in
    let here : (j : ℕ) → j < n → right_at s (place_of s (0 + j)) ≡ true =
    λ j h. let z : 0 + j ≡ j = omega arith in ap (λ (i : ℕ). right_at s (place_of s i)) z ∙ counted-right s 128 j h in
    let e = found-file s 0 n b (λ j h. (right-whole s (place_of s (0 + j)) (here j h)).0) in
    let z : 0 + n ≡ n = omega arith in
    let last : drop (place_of s (0 + n)) s ≡ [] = ap (λ (i : ℕ). drop i s) (ap (place_of s) z ∙ ok-ends s t) ∙ drop-length s in
    record {
      records = rs;
      laid = record {
        each = λ k h.
            let l : k < n = omega (arith, found-count s 0 n) in
            subst RightRecord (sym (found-at s 0 n k l)) (right-record s (place_of s (0 + k)) b (here k l));
        few = omega (arith, found-count s 0 n, counted-most s 128);
        whole = sym (ap (λ (i : ℕ). drop i s) (place_none s)) ∙ e ∙ ap (λ (x : List ℕ). file_of rs ++ x) last ∙ append-none (file_of rs);
      };
    }
  where
    append-none : (l : List ℕ) → l ++ [] ≡ l
    append-none [] = refl
    append-none (v ∷ l) = ap (λ (t : List ℕ). v ∷ t) (append-none l)

-- ---- a sequence of right records is laid out right, and each number stands for its record

right-fits : (r : Rec) → RightRecord r → RecFits r
right-fits r R = record { size = omega (arith, R.size); kind = omega (arith, R.most) }

module _ (rs : List Rec) (s : List ℕ) (S : StoreOf rs s) where
  reads : Reads s 0 rs
  reads =
      file-reads s 0 rs (λ j h. right-fits (record_of rs j) (S.each j h)) (omega (arith, place_none s))
      (ap (λ (i : ℕ). drop i s) (place_none s) ∙ S.whole)

  found-record : (k : ℕ) → k < length rs → found_at s (place_of s k) ≡ record_of rs k
  found-record k h = let z : k ≡ 0 + k = omega arith in ap (λ (i : ℕ). found_at s (place_of s i)) z ∙ reads.is k h

  record-right : (k : ℕ) → k < length rs → right_at s (place_of s k) ≡ true
  record-right k h =
      let z : k ≡ 0 + k = omega arith in
      right_is s (place_of s k) (ap (λ (i : ℕ). whole_at s (place_of s i)) z ∙ reads.whole k h)
      (ap record_right (found-record k h) ∙ said-right (record_of rs k) (S.each k h))

  ends : place_of s (length rs) ≡ length s
  ends = let z : length rs ≡ 0 + length rs = omega arith in ap (place_of s) z ∙ reads.ends

  pub store-count : count_in s ≡ length rs
  store-count =
      ⊎_elim
      (λ (l : length rs < 128). counted_is s (length rs) 128 (omega arith) record-right
      (right-not s (place_of s (length rs)) (none-at-end s (place_of s (length rs)) ends)))
      (λ (g : 128 ≤ length rs).
      let e : length rs ≡ 128 = omega (arith, S.few) in
      counted-full s 128 (λ k h. record-right k (omega arith)) ∙ sym e)
      (lt-or-ge (length rs) 128)

  pub store_ok : is_store s ≡ true
  unfolding is_store
  store_ok = eq-eqb _ _ (ap (place_of s) store-count ∙ ends)

  pub store_kept : (n : ℕ) → 1 ≤ n → n ≤ length rs → kept_in s n ≡ kept_of (record_of rs (n - 1))
  store_kept n g h =
      number-kept s n g (omega (arith, store-count)) ∙ ap kept_of (found-record (n - 1) (omega arith))

  pub store-unknown : (n : ℕ) → (1 ≤ n → length rs < n) → kept_in s n ≡ kept.Unknown
  store-unknown n f =
      ⊎_elim (λ (l : n < 1). sym (number-low s n l))
      (λ (g : 1 ≤ n). sym (number-high s n g (omega (arith, store-count, f g)))) (lt-or-ge n 1)

-- 13, both ways, over every list of bytes
pub layout-means : (s : List ℕ) → Bytes s → (is_store s ≡ true) ↔ IsStore s
layout-means s b = (ok-store s b, λ (I : IsStore s). store_ok I.records s I.laid)

-- ---- settings as a record

pub body-eight : (s : Settings) → length (body_of s) ≡ 8
unfolding body_of le_bytes
body-eight s = refl

pub record-twelve : (s : Settings) → length (bytes_of (settings_record s)) ≡ 12
unfolding bytes_of body_of le_bytes
record-twelve s = refl

-- what rule 7 says of figures as bytes
pub record Small (s : Settings) : Type 0 where
  pub fairness : s.fairness < 256
  pub lock : s.lock < 256
  pub boundary : s.boundary < 256
  pub edition : s.edition < 256
  pub value : s.value < 65536
  pub days : s.days < 65536

boundary-small : (b v : ℕ) → boundary_ok b v ≡ true → (b < 256) × (v < 65536)
unfolding boundary_ok
boundary-small b v t =
    by-test (eqb b 0) _
    (λ z.
    let h = leb-true v 1024 (sym (ap (λ (x : Bool). cond x (lib.Dec.leb v 1024) (eqb b 1 && lib.Dec.leb v 127)) z) ∙ t) in
    let q = eqb-true b 0 z in (omega arith, omega arith))
    (λ z.
    let x = both (eqb b 1) (lib.Dec.leb v 127) (sym (ap (λ (x : Bool). cond x (lib.Dec.leb v 1024) (eqb b 1 && lib.Dec.leb v 127)) z) ∙ t) in
    let h = leb-true v 127 x.1 in
    let q = eqb-true b 1 x.0 in (omega arith, omega arith))

pub small : (s : Settings) → settings_ok s ≡ true → Small s
unfolding settings_ok
small s t =
    let x = five _ _ _ _ _ t in
    let b = boundary-small s.boundary s.value x.4 in
    record {
      fairness = omega (arith, leb-true s.fairness 1 x.0);
      lock = omega (arith, leb-true s.lock 1 x.1);
      boundary = b.0;
      edition = omega (arith, leb-true s.edition 1 x.2);
      value = b.1;
      days = omega (arith, leb-true s.days 366 x.3);
    }

-- a list whose entries are bytes, one by one
data EachByte : List ℕ → Type 0 where
  none : EachByte []
  byte : {v : ℕ} {l : List ℕ} → v < 256 → EachByte l → EachByte (v ∷ l)

each-bytes : {l : List ℕ} → EachByte l → Bytes l
each-bytes none k = lit< tt
each-bytes (byte h e) zero = h
each-bytes (byte h e) (suc k) = each-bytes e k

byte_of : (n : ℕ) → n % 256 < 256
byte_of n = omega arith

each-body : (s : Settings) → Small s → EachByte (body_of s)
unfolding body_of le_bytes
each-body s S =
    byte S.fairness (byte S.lock (byte S.boundary (byte S.edition
    (byte (byte_of s.value) (byte (byte_of (s.value / 256)) (byte (byte_of s.days) (byte (byte_of (s.days / 256)) none)))))))

pub saved-right : (s : Settings) → settings_ok s ≡ true → RightRecord (settings_record s)
saved-right s t = record {
  least = omega arith;
  most = omega arith;
  known = λ h. body-eight s;
  zero-byte = λ e. absurd (omega arith);
  size = omega (arith, body-eight s);
  bytes = each-bytes (each-body s (small s t));
}

-- what was saved is what is read
pub saved-figures : (s : Settings) → settings_ok s ≡ true → figures_of (settings_record s) ≡ s
unfolding figures_of body_of le_bytes le
saved-figures s t =
    let S = small s t in
    let v : s.value % 256 + 256 * (s.value / 256 % 256 + 256 * 0) ≡ s.value = omega (arith, S.value) in
    let d : s.days % 256 + 256 * (s.days / 256 % 256 + 256 * 0) ≡ s.days = omega (arith, S.days) in
    ap₂ (with-words s) v d
  where
    with-words : Settings → ℕ → ℕ → Settings
    with-words s x y = record {
      fairness = s.fairness;
      lock = s.lock;
      boundary = s.boundary;
      edition = s.edition;
      value = x;
      days = y;
    }

pub saved-kept : (s : Settings) → settings_ok s ≡ true → kept_of (settings_record s) ≡ kept.Figures s
saved-kept s t = sym (kept-figures (settings_record s) (omega arith)) ∙ ap kept.Figures (saved-figures s t)
