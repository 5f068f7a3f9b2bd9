-- What the tests leave known where nothing is refused; and the rota then passes. Assumes nothing.
use mathlib.Core.Path.{◌≡◌, refl, sym, ap, ◌∙◌}
use mathlib.Core.Bool.{Bool, true, false, ◌&&◌, ◌||◌, not, cond}
use mathlib.Core.Logic.{◌⊎◌, inl, inr, ⊎_elim}
use mathlib.Core.List.{List, [], ◌++◌}
use Prim.Native.Nat.{ℕ, zero, suc, ◌+◌, ◌-◌, ◌*◌, ◌≤◌, ◌<◌, zero-le}
use native.Mathlib.Omega.{arith}
use borrow.Author.Tests.{leb-true, le-leb, lt-ltb, eq-eqb, eqb-true, eqb-false}
use lib.Dec.{eqb, leb}
use lib.ListN.{length, get_or}
use lib.ListN.{get_or-append}
use Rattle.paper.specs.Limits.{slot_count_ok, slots_most, nobody, Test, number_of}
use Rattle.paper.specs.Count.{all}
use Rattle.paper.proofs.Logic.{by-test, both, and-true, or-either, or-second, or_right, lt-or-ge, slot-count-says}
use Rattle.paper.proofs.Rows.{worked, passed, all_pass, said, numbered}
use Rattle.paper.proofs.Count.{each_all, get_d_over, get_d-over-out, length_over}
use Rattle.slotset.specs.Slots.{slot}
use Rattle.slotset.proofs.Puts.{slot_lt}
use Rattle.slots.specs.Lent.{slot_ok, slot_ok_at, slot_room_ok, slots_ok, prev_end, SlotsSound}
use Rattle.slots.specs.Atomic.{is_cut, atom_starts}
use Rattle.slots.proofs.LentLaws.{slots-sound}
use Rattle.slots.proofs.SplitLaws.{atoms-ok, atoms-some}
use Rattle.slots.proofs.Meaning.{set-slot, bit-lt-two}
use Rattle.slots.proofs.AvailLaws.{length-rows}
use Rattle.units.specs.Units.{unit_start, units_ok}
use Rattle.units.proofs.Units.{starts-below}
use Rattle.units.specs.Domains.{available}
use Rattle.retire.specs.Going.{start_from, gone_slots}
use Rattle.units.specs.Settings.{settings_ok}
use Rattle.owners.specs.Derived.{Plan, Derived, known_by, afresh}
use Rattle.owners.specs.Recount.{recounts, available_for, known_at, available_at}
use Rattle.owners.specs.Entries.{lent_row, from_slots_row, from_slots, outcome, placeless, Ended}
use Rattle.owners.proofs.RecountRefusals.{first_on, first_stops}
use Rattle.owners.proofs.Entered.{Recounted}
use Rattle.owners.proofs.Minutes.{known-nobody, known-below}
use Rattle.retire.specs.Rolled.{entry, rolled, rolled_column}
use Rattle.retire.specs.New.{New, new_starts, new_ends, new_count, new_bit}
use Rattle.retire.specs.Outcome.{Held, plan_of, units_gone, slots_gone, slots_kept, slots_then, starts_then, ends_then, owners_then, avail_then}
use Rattle.retire.specs.Outcome.{plan_then, asked_row, new_row, held_row, retire_row, sound, whole, comes_after, figures_then_ok}
use Rattle.retire.specs.Inside.{NewRight, PlanRight}
use Rattle.retire.proofs.Rolls.{rolled-old, rolled-new}
use Rattle.retire.proofs.Bits.{rolled-lt}
use Rattle.retire.proofs.Asks.{AskedRight, asked-says, whole_says, whole-none}
use Rattle.retire.proofs.Moved.{gone-below}

-- owners that pass: from_slots works out what is derived
pub owners-moved : (P : Plan) (avail o' : List ℕ) (D E : Derived) → number_of (from_slots_row P avail o' D) ≡ 0 → (o : List ℕ) → o ≡ o'
    → (n : ℕ) (x : List ℕ) → Ended (from_slots P avail o D) (placeless n) x E [] → E ≡ afresh P o' D
unfolding from_slots outcome
owners-moved P avail o' D E z o e n x R =
    R.derived ∙ worked (number_of (from_slots_row P avail o D)) _ _ (ap (λ (y : List ℕ). number_of (from_slots_row P avail y D)) e ∙ z)
    ∙ ap (λ (y : List ℕ). afresh P y D) e

room-part : (n : ℕ) (starts ends : List ℕ) → slots_ok n starts ends ≡ true → slot_room_ok n starts ends ≡ true
unfolding slots_ok
room-part n starts ends e = (both (slot_room_ok n starts ends) (all n (slot_ok_at starts ends)) e).0

-- ---- where nothing is refused

-- a row of which nothing is refused: neither of its front nor of its rest
front-none : (ts us : List Test) → number_of (ts ++ us) ≡ 0 → number_of ts ≡ 0
front-none ts us z =
    by-test (eqb (number_of ts) 0) _ (λ t. eqb-true (number_of ts) 0 t)
    (λ f. absurd (eqb-false (number_of ts) 0 f (sym (said ts (first_stops ts us (eqb-false (number_of ts) 0 f))) ∙ said (ts ++ us) refl ∙ z)))

rest-none : (ts us : List Test) → numbered ts ≡ true → number_of (ts ++ us) ≡ 0 → number_of us ≡ 0
rest-none ts us h z =
    sym (said us (first_on ts us h (front-none ts us z))) ∙ said (ts ++ us) refl ∙ z

-- a test that is asked of sound rotas alone
asked_of : (s x : Bool) → not s || x ≡ true → s ≡ true → x ≡ true
asked_of true x e t = e
asked_of false x e t = absurd (mathlib.Core.Bool.false≢true t)

sound-part : (H : Held) → whole H ≡ true → sound H ≡ true
unfolding whole
sound-part H w =
    (both (sound H) (recounts (plan_of H) H.lent.avail H.units H.lent.begins H.lent.owners H.lent.derived) w).0

-- where a unit stays, a slot does
pub kept-some : (H : Held) → units_ok H.slots H.units H.lent.begins ≡ true → units_gone H < H.units → 0 < slots_kept H
unfolding gone_slots start_from
kept-some H ok h =
    let e : slots_gone H ≡ unit_start H.lent.begins (units_gone H) =
    ap (λ (b : Bool). cond b (unit_start H.lent.begins (units_gone H)) H.slots) (lt-ltb (units_gone H) H.units h) in
    omega (arith, e, starts-below H.slots H.units H.lent.begins ok (units_gone H) h)

comes-says : (H : Held) (N : New) → comes_after H N ≡ true → 0 < slots_kept H
    → (N.count ≡ 0) ⊎ (entry H.lent.ends (H.slots - 1) ≤ entry N.starts 0)
unfolding comes_after
comes-says H N e h =
    ⊎_elim (λ t. inl (let q : N.count ≡ 0 = omega (arith, leb-true N.count 0 t) in q))
    (λ t. ⊎_elim (λ u. absurd (omega (arith, h, leb-true (slots_kept H) 0 u))) (λ u. inr (leb-true _ _ u))
    (or-either (leb (slots_kept H) 0) (leb (entry H.lent.ends (H.slots - 1)) (entry N.starts 0)) t))
    (or-either (leb N.count 0) (leb (slots_kept H) 0 || leb (entry H.lent.ends (H.slots - 1)) (entry N.starts 0)) e)

pub record RetireRight (H : Held) (N : New) : Type 0 where
  pub asked : AskedRight H N
  pub right : NewRight H.people N.count N.starts N.ends N.ranges
  pub settings-ok : settings_ok N.settings ≡ true
  pub whole_is : whole H ≡ true
  pub after : comes_after H N ≡ true
  pub fits : slots_then H N ≤ 1024
  pub figures : figures_then_ok H ≡ true

module _ (H : Held) (N : New) where
  pub retire-says : number_of (retire_row H N) ≡ 0 → RetireRight H N
  unfolding retire_row asked_row new_row
  retire-says z =
      let front = front-none (asked_row H N ++ new_row H N) (held_row H) z in
      let zn = rest-none (asked_row H N) (new_row H N) refl front in
      let zh = rest-none (asked_row H N ++ new_row H N) (held_row H) refl z in
      let A = asked-says H N (front-none (asked_row H N) (new_row H N) front) in
      let h = passed (new_row H N) refl zn in
      let w = whole-none H 0 (sym zh) refl in
      let s = sound-part H w in
      record {
        asked = A;
        right = record {
          people-ok = A.people-ok;
          base-few = A.base-few;
          ranges-few = A.ranges-few;
          base_ok = h 0;
          ranges-ok = h 2;
        };
        settings-ok = h 6;
        whole_is = w;
        after = asked_of (sound H) (comes_after H N) (h 1) s;
        fits = leb-true _ _ (asked_of (sound H) (leb (slots_then H N) slots_most) (h 3) s);
        figures = asked_of (whole H) (figures_then_ok H) (h 5) w;
      }

  module _ (R : RetireRight H N) (some : units_gone H ≡ 0 → ⊥) (rest : units_gone H ≡ H.units → ⊥) (most : units_gone H ≤ H.units) where
    pub plan-right : PlanRight H N
    plan-right =
        let w = whole_says H R.whole_is in
        record {
          people-ok = R.asked.people-ok;
          slots-few = (slot-count-says H.slots R.asked.count-ok).1;
          starts-room = R.asked.starts-room;
          ends-room = R.asked.ends-room;
          avail-room = R.asked.avail-room;
          begins-room = R.asked.begins-room;
          frozen-room = R.asked.frozen-room;
          right = R.right;
          settings-ok = R.settings-ok;
          slots-ok = w.0;
          units-ok = w.1;
          fits = R.fits;
          after = comes-says H N R.after (kept-some H w.1 (omega (arith, rest, most)));
          some = omega (arith, some);
          rest = omega (arith, rest, most);
        }

-- ---- entries of a column then

module _ (gone kept total : ℕ) (new : ℕ → ℕ) (l : List ℕ) (room : total ≤ length l) where
  pub at_old : (k : ℕ) → k < kept → k < total → get_or (rolled_column gone kept total new l) k 0 ≡ get_or l (gone + k) 0
  unfolding rolled_column
  at_old k h b = get_d_over _ total l k b (omega arith) ∙ rolled-old gone kept (entry l) new k h

  pub at_new : (k : ℕ) → kept ≤ k → k < total → get_or (rolled_column gone kept total new l) k 0 ≡ new (k - kept)
  unfolding rolled_column
  at_new k h b = get_d_over _ total l k b (omega arith) ∙ rolled-new gone kept (entry l) new k h

  pub at-past : (k : ℕ) → total ≤ k → get_or (rolled_column gone kept total new l) k 0 ≡ get_or l k 0
  unfolding rolled_column
  at-past k h = get_d-over-out _ total l k h

  pub column-length : length (rolled_column gone kept total new l) ≡ length l
  unfolding rolled_column
  column-length = length_over _ total l

-- ---- slots one by one

slot-made : (S E : List ℕ) (k : ℕ) → prev_end E k ≤ get_or S k 0 → get_or S k 0 < get_or E k 0 → get_or E k 0 ≤ 100000000 → slot_ok_at S E k ≡ true
unfolding slot_ok_at slot_ok
slot-made S E k a b c = and-true _ _ (le-leb _ _ a) (and-true _ _ (lt-ltb _ _ b) (le-leb _ _ c))

prev-le : (E : List ℕ) (k x : ℕ) → ((j : ℕ) → suc j ≡ k → get_or E j 0 ≤ x) → prev_end E k ≤ x
unfolding prev_end
prev-le E zero x h = zero-le
prev-le E (suc j) x h = h j refl

-- the first piece starts where the first base slot does
first-start : (cut : ℕ → Bool) (n : ℕ) (starts ends : List ℕ) → get_or (atom_starts cut (suc n) starts ends) 0 0 ≡ get_or starts 0 0
unfolding atom_starts
first-start cut zero starts ends = refl
first-start cut (suc n) starts ends =
    get_or-append (atom_starts cut (suc n) starts ends) _ 0 0 (omega (arith, atoms-some cut (suc n) starts ends)) ∙ first-start cut n starts ends

pub first-new : (people : ℕ) (N : New) → 0 < N.count → entry (new_starts people N) 0 ≡ entry N.starts 0
unfolding new_starts
first-new people N h =
    let e : suc (N.count - 1) ≡ N.count = omega arith in
    ap (λ (n : ℕ). get_or (atom_starts (is_cut people N.ranges) n N.starts N.ends) 0 0) (sym e)
    ∙ first-start (is_cut people N.ranges) (N.count - 1) N.starts N.ends

none-new : (people : ℕ) (N : New) → N.count ≡ 0 → new_count people N ≡ 0
unfolding new_starts atom_starts
none-new people N z = ap (λ (n : ℕ). length (atom_starts (is_cut people N.ranges) n N.starts N.ends)) z

module _ (H : Held) (N : New) (P : PlanRight H N) where
  pub new-sound : SlotsSound (new_count H.people N) (new_starts H.people N) (new_ends H.people N)
  unfolding new_starts new_ends
  new-sound = slots-sound _ _ _ (atoms-ok (is_cut H.people N.ranges) N.count N.starts N.ends P.right.base_ok)

  old-sound : SlotsSound H.slots H.lent.starts H.lent.ends
  old-sound = slots-sound H.slots H.lent.starts H.lent.ends P.slots-ok

  starts-wide : slots_then H N ≤ length H.lent.starts
  starts-wide = omega (arith, P.fits, P.starts-room)

  ends-wide : slots_then H N ≤ length H.lent.ends
  ends-wide = omega (arith, P.fits, P.ends-room)

  -- the first new slot comes after the last that is left
  comes : (k : ℕ) → k ≡ slots_kept H → k < slots_then H N → get_or H.lent.ends (H.slots - 1) 0 ≤ entry (new_starts H.people N) 0
  comes k e h =
      ⊎_elim (λ (z : N.count ≡ 0). absurd (omega (arith, none-new H.people N z)))
      (λ (l : entry H.lent.ends (H.slots - 1) ≤ entry N.starts 0).
      ⊎_elim (λ (c : 0 < N.count). omega (arith, first-new H.people N c, l))
      (λ (c : N.count ≤ 0). absurd (omega (arith, none-new H.people N (let q : N.count ≡ 0 = omega arith in q)))) (lt-or-ge 0 N.count))
      P.after

  slot-then : (k : ℕ) → k < slots_then H N → slot_ok_at (starts_then H N) (ends_then H N) k ≡ true
  slot-then k b =
      let below = gone-below H N P in
      let s-old = at_old (slots_gone H) (slots_kept H) (slots_then H N) (entry (new_starts H.people N)) H.lent.starts starts-wide in
      let e-old = at_old (slots_gone H) (slots_kept H) (slots_then H N) (entry (new_ends H.people N)) H.lent.ends ends-wide in
      let s-new = at_new (slots_gone H) (slots_kept H) (slots_then H N) (entry (new_starts H.people N)) H.lent.starts starts-wide in
      let e-new = at_new (slots_gone H) (slots_kept H) (slots_then H N) (entry (new_ends H.people N)) H.lent.ends ends-wide in
      ⊎_elim
      (λ (h : k < slots_kept H).
      slot-made (starts_then H N) (ends_then H N) k
      (prev-le (ends_then H N) k _ (λ j q. omega (
        arith,
        s-old k h b,
        e-old j (omega arith) (omega arith),
        old-sound.ascending (slots_gone H + j) (slots_gone H + k) (omega arith) (omega arith),
      )))
      (omega (arith, s-old k h b, e-old k h b, old-sound.ordered (slots_gone H + k) (omega arith)))
      (omega (arith, e-old k h b, old-sound.capped (slots_gone H + k) (omega arith))))
      (λ (h : slots_kept H ≤ k).
      slot-made (starts_then H N) (ends_then H N) k
      (prev-le (ends_then H N) k _ (λ j q.
      ⊎_elim
      (λ (g : j < slots_kept H).
      let at : k ≡ slots_kept H = omega arith in
      let last : slots_gone H + j ≡ H.slots - 1 = omega arith in
      let first : k - slots_kept H ≡ 0 = omega arith in
      omega (
        arith,
        s-new k h b,
        e-old j g (omega arith),
        ap (λ (x : ℕ). get_or H.lent.ends x 0) last,
        ap (λ (x : ℕ). entry (new_starts H.people N) x) first,
        comes k at b,
      ))
      (λ (g : slots_kept H ≤ j).
      omega (
        arith,
        s-new k h b,
        e-new j g (omega arith),
        new-sound.ascending (j - slots_kept H) (k - slots_kept H) (omega arith) (omega arith),
      ))
      (lt-or-ge j (slots_kept H))))
      (omega (arith, s-new k h b, e-new k h b, new-sound.ordered (k - slots_kept H) (omega arith)))
      (omega (arith, e-new k h b, new-sound.capped (k - slots_kept H) (omega arith))))
      (lt-or-ge k (slots_kept H))

  -- rule 9 of the slots then
  pub slots-pass : slots_ok (slots_then H N) (starts_then H N) (ends_then H N) ≡ true
  unfolding slots_ok slot_room_ok
  slots-pass =
      and-true _ _
      (and-true _ _
      (le-leb (slots_then H N) (length (starts_then H N))
      (omega (arith, column-length (slots_gone H) (slots_kept H) (slots_then H N) (entry (new_starts H.people N)) H.lent.starts starts-wide, starts-wide)))
      (le-leb (slots_then H N) (length (ends_then H N))
      (omega (arith, column-length (slots_gone H) (slots_kept H) (slots_then H N) (entry (new_ends H.people N)) H.lent.ends ends-wide, ends-wide))))
      (each_all (slots_then H N) (slot_ok_at (starts_then H N) (ends_then H N)) slot-then)

  -- each person's set then, slot by slot
  bits-then : (p k : ℕ) → rolled (slots_gone H) (slots_kept H) (slot H.lent.avail (16 * p)) (new_bit H.people N p) k < 2
  unfolding new_bit
  bits-then p k =
      rolled-lt (slots_gone H) (slots_kept H) _ _ (slot_lt H.lent.avail (16 * p))
      (bit-lt-two N.ranges (new_starts H.people N) (new_ends H.people N) p) k

  pub avail-at : (p k : ℕ) → p < H.people → k < slots_then H N
      → slot (avail_then H N) (16 * p) k ≡ rolled (slots_gone H) (slots_kept H) (slot H.lent.avail (16 * p)) (new_bit H.people N p) k
  avail-at p k h b = set-slot _ bits-then (slots_then H N) P.fits H.lent.avail H.people P.avail-room p k h b

  -- ---- owners: those left are known and available as before; nobody needs to be

  module _ (owners-room : 1024 ≤ length H.lent.owners)
      (C : Recounted (plan_of H) H.lent.avail H.units H.lent.begins H.lent.owners H.lent.derived) where
    owners-wide : slots_then H N ≤ length H.lent.owners
    owners-wide = omega (arith, P.fits)

    pub owner-old : (k : ℕ) → k < slots_kept H → get_or (owners_then H N) k 0 ≡ get_or H.lent.owners (slots_gone H + k) 0
    owner-old k h = at_old (slots_gone H) (slots_kept H) (slots_then H N) (λ _. nobody) H.lent.owners owners-wide k h (omega arith)

    pub owner-new : (k : ℕ) → slots_kept H ≤ k → k < slots_then H N → get_or (owners_then H N) k 0 ≡ nobody
    owner-new k h b = at_new (slots_gone H) (slots_kept H) (slots_then H N) (λ _. nobody) H.lent.owners owners-wide k h b

    pub known-then : (k : ℕ) → k < slots_then H N → known_by H.people (get_or (owners_then H N) k 0) ≡ true
    known-then k b =
        ⊎_elim
        (λ (h : k < slots_kept H). ap (known_by H.people) (owner-old k h) ∙ C.known (slots_gone H + k) (omega (arith, gone-below H N P)))
        (λ (h : slots_kept H ≤ k). ap (known_by H.people) (owner-new k h b) ∙ known-nobody H.people) (lt-or-ge k (slots_kept H))

    old-fits : (k w : ℕ) → k < slots_kept H → w ≡ get_or H.lent.owners (slots_gone H + k) 0 → available_for (avail_then H N) w k ≡ true
    unfolding available_for available
    old-fits k w h e =
        let within : slots_gone H + k < H.slots = omega (arith, gone-below H N P) in
        let was : available_for H.lent.avail w (slots_gone H + k) ≡ true =
        ap (λ (x : ℕ). available_for H.lent.avail x (slots_gone H + k)) e ∙ C.available (slots_gone H + k) within in
        let known : known_by H.people w ≡ true = ap (known_by H.people) e ∙ C.known (slots_gone H + k) within in
        by-test (eqb w nobody) _ (λ t. simp t)
        (λ f.
        or-second (eqb w nobody) _
        (ap (λ (x : ℕ). eqb x 1)
        (avail-at w k (known-below H.people w known (eqb-false w nobody f)) (omega arith) ∙ rolled-old (slots_gone H) (slots_kept H) _ _ k h)
        ∙ or_right (eqb w nobody) _ was f))

    pub fits-then : (k : ℕ) → k < slots_then H N → available_for (avail_then H N) (get_or (owners_then H N) k 0) k ≡ true
    unfolding available_for
    fits-then k b =
        ⊎_elim (λ (h : k < slots_kept H). old-fits k _ h (owner-old k h))
        (λ (h : slots_kept H ≤ k). simp (eq-eqb (get_or (owners_then H N) k 0) nobody (owner-new k h b))) (lt-or-ge k (slots_kept H))

    -- so from_slots refuses nothing
    pub then-passes : AskedRight H N → number_of (from_slots_row (plan_then H N) (avail_then H N) (owners_then H N) H.lent.derived) ≡ 0
    unfolding from_slots_row lent_row slot_count_ok known_at available_at
    then-passes A =
        let some = kept-some H P.units-ok P.rest in
        all_pass (from_slots_row (plan_then H N) (avail_then H N) (owners_then H N) H.lent.derived) (
          P.people-ok,
          (
            and-true _ _ (le-leb 1 (slots_then H N) (omega arith)) (le-leb (slots_then H N) 1024 P.fits),
            (
              refl,
              (
                room_of slots-pass,
                (
                  le-leb (16 * H.people) (length (avail_then H N)) (omega (
                    arith,
                    length-rows (λ p. rolled (slots_gone H) (slots_kept H) (slot H.lent.avail (16 * p))
                        (new_bit H.people N p)) (slots_then H N) H.people H.lent.avail,
                    P.avail-room,
                  )),
                  (
                    le-leb (slots_then H N) (length (owners_then H N))
                        (omega (arith, column-length (slots_gone H) (slots_kept H) (slots_then H N) (λ _. nobody) H.lent.owners owners-wide, owners-wide)),
                    (
                      le-leb _ _ A.sets-room,
                      (
                        le-leb _ _ A.minutes-room,
                        (
                          le-leb _ _ A.totals-room,
                          (refl, (slots-pass, (each_all (slots_then H N) _ known-then, (each_all (slots_then H N) _ fits-then, tt)))),
                        ),
                      ),
                    ),
                  ),
                ),
              ),
            ),
          ),
        )
      where
        room_of : slots_ok (slots_then H N) (starts_then H N) (ends_then H N) ≡ true → slot_room_ok (slots_then H N) (starts_then H N) (ends_then H N) ≡ true
        room_of e = room-part (slots_then H N) (starts_then H N) (ends_then H N) e
