-- Laws of one record written into a lent buffer. Assumes nothing.
use mathlib.Core.Path.{◌≡◌, sym, ap, ◌∙◌}
use mathlib.Core.Bool.{true, false}
use mathlib.Core.List.{List, [], ◌∷◌}
use mathlib.Core.Logic.{◌⊎◌, ⊎_elim}
use Prim.Native.Nat.{ℕ, ◌+◌, ◌/◌, ◌%◌, ◌≤◌, ◌<◌}
use native.Mathlib.Omega.{arith}
use borrow.Author.Tests.{le-leb, lt-leb}
use lib.ListN.{length}
use Rattle.paper.proofs.Logic.{lt-or-ge}
use Rattle.records.specs.Fields.{le_bytes}
use Rattle.records.specs.Records.{bytes_of}
use Rattle.records.specs.Puts.{put}
use Rattle.records.specs.Writes.{written, record_fits, with_record}
use Rattle.records.proofs.Puts.{put-put}

-- ---- the record

module _ (kind : ℕ) (body : List ℕ) (at : ℕ) (x : List ℕ) where
  no-fit : (65535 < length body) ⊎ (length x < at + (4 + length body)) → record_fits (written kind body) at x ≡ false
  unfolding record_fits
  no-fit h =
      ⊎_elim (λ (l : 65535 < length body). simp (lt-leb _ _ l))
      (λ (l : length x < at + (4 + length body)). ⊎_elim (λ (b : 65535 < length body). simp (lt-leb _ _ b))
      (λ (b : length body ≤ 65535). simp (le-leb _ _ b, lt-leb _ _ l)) (lt-or-ge 65535 (length body))) h

  fits : length body ≤ 65535 → at + (4 + length body) ≤ length x → record_fits (written kind body) at x ≡ true
  unfolding record_fits
  fits a b = simp (le-leb (length body) 65535 a, le-leb (at + (4 + length body)) (length x) b)

  -- room: the buffer with it
  pub record-written : length body ≤ 65535 → at + (4 + length body) ≤ length x
      → with_record (written kind body) at x ≡ put (bytes_of (written kind body)) at x
  unfolding with_record
  record-written a b = simp (fits a b)

  -- no room: the buffer stays
  pub record-none : (65535 < length body) ⊎ (length x < at + (4 + length body))
      → (false ≡ record_fits (written kind body) at x) × (x ≡ with_record (written kind body) at x)
  unfolding with_record
  record-none h = let f = no-fit h in (sym f, sym (simp f))

  -- its head, and then its body
  pub record-put : (y z : List ℕ) (s : ℕ) → s ≡ length body → s ≤ 65535 → at + (4 + s) ≤ length x
      → y ≡ put (s % 256 ∷ s / 256 % 256 ∷ kind % 256 ∷ kind / 256 % 256 ∷ []) at x → z ≡ put body (at + 4) y
      → (true ≡ record_fits (written kind body) at x) × (z ≡ with_record (written kind body) at x)
  unfolding with_record bytes_of le_bytes
  record-put y z s e a b p q =
      let n = length body in
      let t = fits (omega arith) (omega arith) in
      let h = n % 256 ∷ n / 256 % 256 ∷ kind % 256 ∷ kind / 256 % 256 ∷ [] in (
        sym t,
        q ∙ ap (put body (at + 4)) (p ∙ ap (λ (k : ℕ). put (k % 256 ∷ k / 256 % 256 ∷ kind % 256 ∷ kind / 256 % 256 ∷ []) at x) e)
            ∙ put-put h body at x (omega arith) ∙ sym (simp t),
      )
