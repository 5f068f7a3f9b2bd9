-- A store after settings were saved: one record more at its end, and all else as it was. Assumes nothing.
use Rattle.std.specs.Prelude.{Result, Ok, Err}
use mathlib.Core.Path.{◌≡◌, sym, ap, ◌∙◌, subst}
use mathlib.Core.Bool.{true}
use mathlib.Core.List.{List, [], ◌∷◌, ◌++◌, append_assoc}
use Prim.Native.Nat.{ℕ, suc, ◌+◌, ◌-◌, ◌≤◌, ◌<◌}
use native.Mathlib.Omega.{arith}
use borrow.Author.Tests.{le-leb, lt-ltb}
use lib.ListN.{length, get_or, take, drop, length-append, get_or-append}
use lib.Seq.{length-take-le, get_or-take, get_or-drop, get_or-append-add, take_at}
use Rattle.paper.specs.Limits.{number_of}
use Rattle.paper.specs.Rows.{answer_as}
use Rattle.paper.proofs.Logic.{by-test, below_suc}
use Rattle.paper.proofs.Rows.{worked, kept, all_pass}
use Rattle.records.specs.Records.{Rec, record_of, bytes_of}
use Rattle.records.specs.Puts.{put}
use Rattle.records.proofs.Puts.{length-put}
use Rattle.records.proofs.Mixed.{file-more}
use Rattle.units.specs.declared.Settings.{Settings}
use Rattle.units.specs.Settings.{settings_ok}
use Rattle.store.specs.declared.Saved.{Saved}
use Rattle.store.specs.Layout.{count_in, RightRecord, StoreOf}
use Rattle.store.specs.Figures.{settings_record}
use Rattle.store.specs.Outcome.{save_row, save_is}
use Rattle.store.proofs.Outcomes.{layout-held, room-is, save-passed, save-room}
use Rattle.store.proofs.Stores.{store_ok, store-count, record-twelve, saved-right}

-- ---- a sequence and one record more

pub more-length : (rs : List Rec) (r : Rec) → length (rs ++ (r ∷ [])) ≡ suc (length rs)
more-length rs r = length-append rs (r ∷ []) ∙ omega arith

pub more-front : (rs : List Rec) (r : Rec) (k : ℕ) → k < length rs → record_of (rs ++ (r ∷ [])) k ≡ record_of rs k
more-front rs r k h = get_or-append rs (r ∷ []) _ k h

pub more-last : (rs : List Rec) (r : Rec) → record_of (rs ++ (r ∷ [])) (length rs) ≡ r
more-last rs r =
    let z : length rs ≡ length rs + 0 = omega arith in
    ap (record_of (rs ++ (r ∷ []))) z ∙ get_or-append-add rs (r ∷ []) 0 _

-- ---- the area with the record written

-- what was written at a place ends the bytes up to its end
put_front : (l : List ℕ) (at : ℕ) (x : List ℕ) (n : ℕ) → at + length l ≤ length x → n ≡ at + length l → take n (put l at x) ≡ take at x ++ l
unfolding put
put_front l at x n h e =
    ap (take n) (sym (append_assoc (take at x) l (drop (at + length l) x)))
    ∙ take_at (take at x ++ l) (drop (at + length l) x) n
    (length-append (take at x) l ∙ omega (arith, length-take-le at x (omega arith), e))

-- bytes before it and behind it stay
put-before : (l : List ℕ) (at : ℕ) (x : List ℕ) (k : ℕ) → at ≤ length x → k < at → get_or (put l at x) k 0 ≡ get_or x k 0
unfolding put
put-before l at x k h g =
    get_or-append (take at x) (l ++ drop (at + length l) x) 0 k (omega (arith, length-take-le at x h)) ∙ get_or-take at x k 0 g

put-behind : (l : List ℕ) (at : ℕ) (x : List ℕ) (k : ℕ) → at + length l ≤ length x → at + length l ≤ k → get_or (put l at x) k 0 ≡ get_or x k 0
unfolding put
put-behind l at x k h g =
    let t = drop (at + length l) x in
    let j = k - (at + length l) in
    let n = length-take-le at x (omega arith) in
    let z : k ≡ length (take at x) + (length l + j) = omega (arith, n) in
    let w : at + length l + j ≡ k = omega arith in
    ap (λ (i : ℕ). get_or (take at x ++ (l ++ t)) i 0) z ∙ get_or-append-add (take at x) (l ++ t) (length l + j) 0
    ∙ get_or-append-add l t j 0 ∙ get_or-drop (at + length l) x j 0 ∙ ap (λ (i : ℕ). get_or x i 0) w

-- ---- an accepted save

-- what an answer that names a number says
pub record Accepted (area : List ℕ) (used : ℕ) (s : Settings) (number end : ℕ) (left : List ℕ) : Type 0 where
  pub free : number_of (save_row area used s) ≡ 0
  pub numbered : number ≡ count_in (take used area) + 1
  pub ends : end ≡ used + 12
  pub written : left ≡ put (bytes_of (settings_record s)) used area

pub accepted-says : (area : List ℕ) (used : ℕ) (s : Settings) (number end : ℕ) → (save_is area used s).answer ≡ Ok (record { number = number; used = end })
    → Accepted area used s number end (save_is area used s).area
unfolding save_is answer_as
accepted-says area used s number end e =
    let n = number_of (save_row area used s) in
    let done : Result Saved ℕ = Ok (record { number = count_in (take used area) + 1; used = used + 12 }) in
    by-test (lib.Dec.eqb n 0) _
    (λ t.
    let z = borrow.Author.Tests.eqb-true n 0 t in
    let q : Ok (record { number = number; used = end }) ≡ done = sym e ∙ worked n (Err n) done z in
    let w : ◌≡◌ {A = Saved} (record { number = number; used = end }) (record { number = count_in (take used area) + 1; used = used + 12 }) = cc in
    record { free = z; numbered = ap (λ (x : Saved). x.number) w; ends = ap (λ (x : Saved). x.used) w; written = worked n area _ z })
    (λ f.
    let q : Err n ≡ Ok (record { number = number; used = end }) = sym (kept n (Err n) done (borrow.Author.Tests.eqb-false n 0 f)) ∙ e in
    absurd (let z : ◌≡◌ {A = ℕ} 0 1 = cc in omega arith))

-- where nothing stands against it, it is accepted
pub saves : (area : List ℕ) (used : ℕ) (s : Settings) → number_of (save_row area used s) ≡ 0
    → (save_is area used s).answer ≡ Ok (record { number = count_in (take used area) + 1; used = used + 12 })
unfolding save_is answer_as
saves area used s z = worked _ _ _ z

-- nothing stands against it where a right store has room and the figures are right
pub save-free : (area : List ℕ) (used : ℕ) (s : Settings) (rs : List Rec) → StoreOf rs (take used area) → used + 12 ≤ length area
    → length rs < 128 → settings_ok s ≡ true → number_of (save_row area used s) ≡ 0
unfolding save_row
save-free area used s rs S h f t =
    let a = layout-held area used (omega arith) ∙ store_ok rs (take used area) S in
    let b = le-leb used (length area) (omega arith) in
    let c =
    sym (room-is (count_in (take used area)) used (length area) h) ∙ lt-ltb (count_in (take used area)) 128 (omega (arith, store-count rs (take used area) S)) in
    all_pass (save_row area used s) (a, (b, (c, (t, tt))))

module _ (area : List ℕ) (used : ℕ) (s : Settings) (number end : ℕ) (left : List ℕ) (A : Accepted area used s number end left) where
  room : used + length (bytes_of (settings_record s)) ≤ length area
  room = omega (arith, record-twelve s, (save-room area used s A.free).0)

  pub saved-length : length left ≡ length area
  saved-length = ap length A.written ∙ length-put (bytes_of (settings_record s)) used area room

  -- the used bytes: those before, and the record
  pub saved-used : take end left ≡ take used area ++ bytes_of (settings_record s)
  saved-used =
      ap (take end) A.written ∙ put_front (bytes_of (settings_record s)) used area end room (omega (arith, A.ends, record-twelve s))

  -- every byte but the twelve stays
  pub saved-before : (k : ℕ) → k < used → get_or left k 0 ≡ get_or area k 0
  saved-before k h =
      ap (λ (l : List ℕ). get_or l k 0) A.written ∙ put-before (bytes_of (settings_record s)) used area k (omega (arith, room)) h

  pub saved-behind : (k : ℕ) → used + 12 ≤ k → get_or left k 0 ≡ get_or area k 0
  saved-behind k h =
      ap (λ (l : List ℕ). get_or l k 0) A.written
      ∙ put-behind (bytes_of (settings_record s)) used area k room (omega (arith, record-twelve s))

  -- the sequence: the records before, and then the one saved
  pub saved-store : (rs : List Rec) → StoreOf rs (take used area) → StoreOf (rs ++ (settings_record s ∷ [])) (take end left)
  saved-store rs S =
      let r = settings_record s in
      let n = more-length rs r in
      record {
        each = λ k h.
            below_suc (RightRecord (record_of (rs ++ (r ∷ [])) k)) (subst (λ (m : ℕ). k < m) n h)
            (λ e.
            subst RightRecord (sym (ap (record_of (rs ++ (r ∷ []))) e ∙ more-last rs r)) (saved-right s (save-passed area used s A.free).3))
            (λ l. subst RightRecord (sym (more-front rs r k l)) (S.each k l));
        few = omega (arith, n, store-count rs (take used area) S, (save-room area used s A.free).1);
        whole = saved-used ∙ ap (λ (x : List ℕ). x ++ bytes_of r) S.whole ∙ sym (file-more rs r);
      }
