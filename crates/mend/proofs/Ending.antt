-- The entry: what a row that passes leaves known, and that what is written is the outcome. Assumes nothing.
use Rattle.std.specs.Prelude.{Result, Ok, Err}
use mathlib.Core.Path.{◌≡◌, refl, sym, ap, ap₂, subst, ◌∙◌}
use mathlib.Core.Bool.{Bool, true, false, cond}
use mathlib.Core.List.{List, [], ◌∷◌, ◌++◌}
use Prim.Native.Nat.{ℕ, zero, suc, ◌*◌, ◌≤◌, ◌<◌}
use native.Mathlib.Omega.{arith}
use borrow.Author.Tests.{leb-true, le-leb, lt-leb}
use lib.Dec.{leb}
use lib.ListN.{length, get_or}
use Rattle.paper.specs.Limits.{Test, test, number_of}
use Rattle.paper.specs.declared.Refusal.{Refusal}
use Rattle.paper.specs.Rows.{refusal_of}
use Rattle.paper.specs.Count.{over, onto}
use Rattle.paper.proofs.Logic.{by-test, people-says, slot-count-says}
use Rattle.paper.proofs.Count.{length_over, get_d_over, get_d-over-out}
use Rattle.paper.proofs.Refusals.{number-pass, number-fail}
use Rattle.paper.proofs.Rows.{said, passed, worked, kept}
use Rattle.slotset.proofs.Refusals.{answer-is, answer-refused}
use Rattle.owners.specs.Derived.{Plan, Derived, derived, sets_from, total_of, afresh}
use Rattle.owners.specs.Derived as figures
use Rattle.owners.proofs.Sets.{length-sets}
use Rattle.owners.proofs.RecountRefusals.{first_on, first_stops}
use Rattle.mend.specs.Mended.{mended}
use Rattle.mend.specs.Repairs.{Rota, rota, column, entries, flag_of, Repair, repairs_in, repairs, numbers}
use Rattle.mend.specs.Answers.{mended_rota, repairs_due, found_row, mend_row, Outcome, mending, Ended}
use Rattle.mend.specs.Inside.{how_many, taken_over, Mendable, NewRoom, WorkedOut, write_out}
use Rattle.mend.proofs.Kept.{mended-length, mended-past}
use Rattle.mend.proofs.ListLaws.{repairs-same, many-listed}
use Rattle.mend.proofs.Made.{copied_is, rota-same, sets-past}

-- ---- a row that goes on from another, by its number

number-on : (ts : List Test) (t : Test) → number_of ts ≡ 0 → Rattle.paper.proofs.Rows.numbered ts ≡ true
    → number_of (ts ++ (t ∷ [])) ≡ number_of (t ∷ [])
number-on ts t z h =
    sym (said (ts ++ (t ∷ [])) refl) ∙ ap (λ (f : Refusal). f.number) (first_on ts (t ∷ []) h z) ∙ said (t ∷ []) refl

number-stops : (ts : List Test) (t : Test) → (number_of ts ≡ 0 → ⊥) → number_of (ts ++ (t ∷ [])) ≡ number_of ts
number-stops ts t n =
    sym (said (ts ++ (t ∷ [])) refl) ∙ ap (λ (f : Refusal). f.number) (first_stops ts (t ∷ []) n) ∙ said ts refl

-- ---- what write_out leaves

outcome-same : {a a' : Result ℕ ℕ} {R R' : Rota} {l l' : List ℕ} → a ≡ a' → R ≡ R' → l ≡ l'
    → ◌≡◌ {A = Outcome} (record { answer = a; rota = R; list = l }) (record { answer = a'; rota = R'; list = l' })
outcome-same {a} {a'} {R} {R'} {l} {l'} ea e_r el =
    ap₂ {C = Outcome} (λ (x : Result ℕ ℕ) (y : Rota). record { answer = x; rota = y; list = l }) ea e_r
    ∙ ap {B = Outcome} (λ (x : List ℕ). record { answer = a'; rota = R'; list = x }) el

pub ended-as : (x y : Outcome) (r : Result ℕ ℕ) (R : Rota) (l : List ℕ) → x ≡ y → Ended x r R l → Ended y r R l
ended-as x y r R l e E = subst (λ (z : Outcome). Ended z r R l) e E

module _ (people slots : ℕ) (frozen : List ℕ) (found new : Rota) (l : List ℕ) (n : ℕ) (en : n ≡ how_many people slots found new) where
  pub wrote-all : 5 * n ≤ length l → (R : Rota) (l' : List ℕ) → R ≡ taken_over people slots found new
      → l' ≡ onto (numbers (repairs people slots frozen found new)) l → Ended (write_out people slots frozen found new l) (Ok n) R l'
  unfolding write_out
  wrote-all h R l' e_r el =
      let m = how_many people slots found new in
      let t : leb (5 * m) (length l) ≡ true = le-leb (5 * m) (length l) (omega arith) in
      let yes : Outcome = record {
        answer = Ok m;
        rota = taken_over people slots found new;
        list = onto (numbers (repairs people slots frozen found new)) l;
      } in
      let no : Outcome = record { answer = Err 2; rota = found; list = l } in
      ended-as yes (cond (leb (5 * m) (length l)) yes no) (Ok n) R l' (sym (ap (λ (b : Bool). cond b yes no) t))
      record { said = ap Ok en; left = e_r; list = el }

  pub wrote_none : length l < 5 * n → Ended (write_out people slots frozen found new l) (Err 2) found l
  unfolding write_out
  wrote_none h =
      let m = how_many people slots found new in
      let f : leb (5 * m) (length l) ≡ false = lt-leb (5 * m) (length l) (omega arith) in
      let yes : Outcome = record {
        answer = Ok m;
        rota = taken_over people slots found new;
        list = onto (numbers (repairs people slots frozen found new)) l;
      } in
      let no : Outcome = record { answer = Err 2; rota = found; list = l } in
      ended-as no (cond (leb (5 * m) (length l)) yes no) (Err 2) found l (sym (ap (λ (b : Bool). cond b yes no) f))
      record { said = refl; left = refl; list = refl }

-- ---- what the first tests leave known

module _ (P : Plan) (avail : List ℕ) (units : ℕ) (begins frozen : List ℕ) (R : Rota) where
  abbrev row : List Test
  row = found_row P avail units begins frozen R

  abbrev due : List Repair
  due = repairs_due P avail units begins frozen R

  abbrev after : Rota
  after = mended_rota P avail units begins R

  module _ (z : number_of row ≡ 0) where
    pub mendable : Mendable P avail units begins R.owners R.derived.sets
    unfolding found_row
    mendable =
        let h = passed row refl z in
        record {
          people = h 0;
          count = h 1;
          room = h 2;
          lent = h 10;
          units-ok = h 11;
          avail-room = leb-true _ _ (h 3);
          owners-room = leb-true _ _ (h 6);
          sets-room = leb-true _ _ (h 7);
        }

    pub found-room : NewRoom P.people P.slots R.owners R.derived.sets R.derived.minutes R.derived.totals
    unfolding found_row
    found-room =
        let h = passed row refl z in
        record {
          owners = leb-true _ _ (h 6);
          sets = leb-true _ _ (h 7);
          minutes = leb-true _ _ (h 8);
          totals = leb-true _ _ (h 9);
        }

    pub people-few : P.people ≤ 32
    people-few = (people-says P.people mendable.people).1

    pub slots-few : P.slots ≤ 1024
    slots-few = (slot-count-says P.slots mendable.count).1

    -- the columns that it is worked out in are long enough
    pub local-room : (o s m t : List ℕ) → length o ≡ 1024 → length s ≡ 512 → length m ≡ 32 → length t ≡ 2
        → NewRoom P.people P.slots o s m t
    local-room o s m t eo es em et =
        record {
          owners = omega (arith, slots-few);
          sets = omega (arith, people-few);
          minutes = omega (arith, people-few);
          totals = omega arith;
        }

    module _ (o' s' m' t' : List ℕ) (W : WorkedOut P avail units begins R.owners R.derived.sets o' s' m' t') where
      abbrev new : Rota
      new = rota o' (derived s' m' t')

      -- entry by entry what is due
      same_at : (p k : ℕ) → k < entries P.people P.slots p → get_or (column new p) k 0 ≡ get_or (column after p) k 0
      unfolding entries column mended_rota afresh
      same_at zero k h = W.owners k h
      same_at (suc zero) k h = W.sets k h
      same_at (suc (suc zero)) k h =
          W.minutes k h ∙ sym (get_d_over (figures.worked P _) P.people R.derived.minutes k h (omega (arith, found-room.minutes)))
      same_at (suc (suc (suc p))) k h =
          W.totals k h ∙ sym (get_d_over (total_of P _) 2 R.derived.totals k h (omega (arith, found-room.totals)))

      pub due-listed : repairs P.people P.slots frozen R new ≡ due
      unfolding repairs_due repairs
      due-listed =
          let of : (p : ℕ) → repairs_in P.people P.slots frozen R new p ≡ repairs_in P.people P.slots frozen R after p
          = λ p.
          repairs-same p (flag_of frozen p) (column R p) (column new p) (column after p) (entries P.people P.slots p) (same_at p) in
          ap₂ ◌++◌ (of 0) (ap₂ ◌++◌ (of 1) (ap₂ ◌++◌ (of 2) (of 3)))

      taken-over : taken_over P.people P.slots R new ≡ after
      unfolding mended_rota afresh
      taken-over =
          let o = mended P avail units begins R.owners in
          let D = R.derived in
          rota-same
          (copied_is o' R.owners P.slots o (mended-length P avail units begins R.owners) found-room.owners W.owners
          (mended-past P avail units begins R.owners mendable.units-ok))
          (copied_is s' D.sets (16 * P.people) (sets_from P.people P.slots o D.sets)
          (length-sets P.people P.slots o D.sets) found-room.sets W.sets
          (sets-past P.people P.slots o D.sets slots-few))
          (copied_is m' D.minutes P.people (over (figures.worked P o) P.people D.minutes)
          (length_over (figures.worked P o) P.people D.minutes) found-room.minutes
          (λ p h. W.minutes p h ∙ sym (get_d_over (figures.worked P o) P.people D.minutes p h (omega (arith, found-room.minutes))))
          (λ p h. get_d-over-out (figures.worked P o) P.people D.minutes p h))
          (copied_is t' D.totals 2 (over (total_of P o) 2 D.totals) (length_over (total_of P o) 2 D.totals) found-room.totals
          (λ i h. W.totals i h ∙ sym (get_d_over (total_of P o) 2 D.totals i h (omega (arith, found-room.totals))))
          (λ i h. get_d-over-out (total_of P o) 2 D.totals i h))

      many-due : how_many P.people P.slots R new ≡ length due
      many-due =
          sym (many-listed P.people P.slots R.owners R.derived.sets R.derived.minutes R.derived.totals o' s' m' t'
          frozen)
          ∙ ap length due-listed

      -- and what is written is the outcome
      module _ (list : List ℕ) where
        abbrev last : Test
        last = test 2 (leb (5 * length due) (length list))

        goes_on : number_of (mend_row P avail units begins frozen R list) ≡ number_of (last ∷ [])
        unfolding mend_row found_row
        goes_on = number-on row last z refl

        pub writes-due : write_out P.people P.slots frozen R new list ≡ mending P avail units begins frozen R list
        unfolding write_out mending number_of
        writes-due =
            let n = how_many P.people P.slots R new in
            let most : leb (5 * n) (length list) ≡ leb (5 * length due) (length list)
            = ap (λ (k : ℕ). leb (5 * k) (length list)) many-due in
            by-test (leb (5 * length due) (length list)) _
            (λ t.
            let e : number_of (mend_row P avail units begins frozen R list) ≡ 0 = goes_on ∙ number-pass last [] t in
            ap (λ (b : Bool). wrote b) (most ∙ t)
            ∙ outcome-same (answer-is 0 _ (sym e) refl n (length due) many-due) (taken-over ∙ sym (worked _ R after e))
            (ap (λ (rs : List Repair). onto (numbers rs) list) due-listed ∙ sym (worked _ list (onto (numbers due) list) e)))
            (λ f.
            let e : number_of (mend_row P avail units begins frozen R list) ≡ 2 = goes_on ∙ number-fail last [] f in
            let two : number_of (mend_row P avail units begins frozen R list) ≡ 0 → ⊥ = λ q. omega (arith, q, e) in
            ap (λ (b : Bool). wrote b) (most ∙ f)
            ∙ outcome-same (answer-refused 2 _ (sym e) (λ q. omega arith) (length due)) (sym (kept _ R after two))
            (sym (kept _ list (onto (numbers due) list) two)))
          where
            wrote : Bool → Outcome
            wrote b =
                cond b (record {
                  answer = Ok (how_many P.people P.slots R new);
                  rota = taken_over P.people P.slots R new;
                  list = onto (numbers (repairs P.people P.slots frozen R new)) list;
                })
                (record { answer = Err 2; rota = R; list = list })

  -- what is lent isn't right: nothing changes
  pub ends-refused : (f : Refusal) (n : ℕ) → f ≡ refusal_of row → n ≡ f.number → (n ≡ 0 → ⊥) → (list : List ℕ)
      → Ended (mending P avail units begins frozen R list) (Err n) R list
  unfolding mending mend_row
  ends-refused f n e q h list =
      let m : n ≡ number_of row = q ∙ said row e in
      let stays : number_of (mend_row P avail units begins frozen R list) ≡ number_of row
      = number-stops row (test 2 (leb (5 * length due) (length list))) (λ w. h (m ∙ w)) in
      let some : number_of (mend_row P avail units begins frozen R list) ≡ 0 → ⊥ = λ w. h (m ∙ sym stays ∙ w) in
      record {
        said = answer-refused n _ (m ∙ sym stays) h (length due);
        left = sym (kept _ R after some);
        list = sym (kept _ list (onto (numbers due) list) some);
      }
