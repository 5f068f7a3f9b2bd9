-- Published and draft side by side: the part of a slot, the walk by parts, publishing, and plays. Assumes nothing.
use mathlib.Core.Path.{◌≡◌, refl, sym, ap, ap₂, subst, ◌∙◌}
use mathlib.Core.Bool.{Bool, true, false, cond}
use mathlib.Core.List.{List, [], ◌∷◌, ◌++◌}
use mathlib.Core.Logic.{⊎_elim}
use Prim.Native.Nat.{ℕ, zero, suc, ◌+◌, ◌-◌, ◌≤◌, ◌<◌}
use native.Mathlib.Decide.{ℕ_discrete}
use native.Mathlib.Omega.{arith}
use borrow.Author.Tests.{eqb-true, eq-eqb, ltb-true, ltb-false}
use lib.Dec.{eqb, ltb, leb}
use lib.ListN.{length, take, drop, get_or, length-drop}
use lib.Seq.{ext_get_or, get_or-take, get_or-drop, take-add, drop-drop, length-take-le}
use Rattle.paper.specs.Limits.{number_of, slot_count_ok, test}
use Rattle.paper.specs.Rows.{unless}
use Rattle.paper.specs.Count.{over}
use Rattle.paper.proofs.Logic.{by-test, lt-or-ge}
use Rattle.paper.proofs.Rows.{worked, kept}
use Rattle.paper.proofs.Count.{length_over, get_d_over, get_d-over-out, over-right}
use Rattle.paper.specs.Bits.{bit_of}
use Rattle.slotset.specs.Slots.{slot}
use Rattle.slotset.specs.Search.{up, next_with}
use Rattle.slotset.proofs.Refusals.{answer-said}
use Rattle.columns.specs.Parts.{columns_row, stretch_row, Part, is_frozen, next_change, part_at, no_part, stretch_of, owners_of}
use Rattle.columns.specs.Parts.{parts_from, all_parts}
use Rattle.columns.specs.Publishing.{owner_read, publish_of, show_row, show_of}
use Rattle.columns.specs.Inside.{Sound}
use Rattle.columns.proofs.Parts.{columns-says, stretch-says, show-says, change-is, change-unique}
use Rattle.columns.proofs.Walk.{read-frozen, read-open, part_length, part-reads}
use Rattle.promises.specs.Entries.{built}
use Rattle.promises.specs.Table.{Rule}
use Rattle.promises.specs.HoleRule.{slots_from}
use Rattle.promises.specs.ColumnRules.{columns_table, ColumnsRefuse, PartRight, StretchByRule}
use Rattle.promises.specs.ColumnRules.{part_slots, part_owners, InTurn, WalkByRule}
use Rattle.promises.specs.ColumnRules.{PublishByRule, PlayKeepsRead, SixSlots}
use Rattle.promises.proofs.Table.{tests-give}
use Rattle.promises.proofs.Tables.{First, by_first, none, say-broken, say-short, say-below, slots-says}
use Rattle.promises.proofs.HoleRule.{slots-join, slots-none}
use Rattle.promises.proofs.Rota.{frozen-keep}

-- ---- demand 1

module _ (slots : ℕ) (p d f : List ℕ) where
  columns-first : {t : List Rule} {n : ℕ} → First t n
      → First (columns_table slots p d f t)
      (cond (slot_count_ok slots)
      (cond (eqb (length p) (length d)) (cond (leb slots (length p)) (cond (leb 16 (length f)) n 2) 2) 2) 1)
  columns-first {t} {n} h =
      slots-says slots
      (say-broken 2 (length p ≡ length d) (eqb (length p) (length d)) (eqb-true (length p) (length d), eq-eqb (length p) (length d))
      (λ a. say-short slots (length p) (λ b. say-short 16 (length f) {t = t} {n = n} (λ c. h))))

empty-owners : (p d : List ℕ) → owners_of no_part p d ≡ []
empty-owners p d = refl

pub columns-refuse : ColumnsRefuse
unfolding number_of columns_row stretch_row show_row stretch_of publish_of show_of
columns-refuse = record {
  stretch = λ slots p d f i.
      by_first _ (stretch_row slots p d f i) _ refl refl (tests-give (stretch_row slots p d f i) refl)
      (columns-first slots p d f (say-below i slots none));
  empty = λ slots p d f i h.
      ap (λ (x : Part). owners_of x p d) (kept (number_of (stretch_row slots p d f i)) no_part (part_at slots f i) h) ∙ empty-owners p d;
  told = λ slots p d f i. answer-said _ _;
  publish = λ slots p d f. record {
    given = by_first _ (columns_row slots p d f) _ refl refl (tests-give (columns_row slots p d f) refl) (columns-first slots p d f none);
    kept = λ h. kept _ p _ h;
  };
  show = λ slots p d f shown. record {
    given = by_first _ (show_row slots p d f shown) _ refl refl (tests-give (show_row slots p d f shown) refl)
        (columns-first slots p d f (say-short slots (length shown) (λ e. none)));
    kept = λ h. kept _ shown _ h;
  };
}

-- ---- the part of a slot

module _ (slots : ℕ) (p d f : List ℕ) (i : ℕ) (z : number_of (stretch_row slots p d f i) ≡ 0) where
  handed : stretch_of slots p d f i ≡ part_at slots f i
  unfolding stretch_of
  handed = worked (number_of (stretch_row slots p d f i)) no_part (part_at slots f i) z

  entry : (b : Bool) (k : ℕ) → i ≤ k → k < next_change slots f i
      → get_or (take (next_change slots f i - i) (drop i (cond b p d))) (k - i) 0 ≡ get_or (cond b p d) k 0
  entry b k a h =
      get_or-take (next_change slots f i - i) (drop i (cond b p d)) (k - i) 0 (omega arith) ∙ get_or-drop i (cond b p d) (k - i) 0
      ∙ ap (λ (j : ℕ). get_or (cond b p d) j 0) (let q : i + (k - i) ≡ k = omega arith in q)

  right : PartRight slots p d f i (part_at slots f i)
  unfolding part_at
  right =
      let says = stretch-says slots p d f i z in
      record {
        column = refl;
        from = refl;
        ends = change-is slots f i says.1;
        whole = λ e E. change-unique slots f i e says.1 E;
        size = part_length slots p d f says.0 i says.1;
        owners = entry (is_frozen f i);
      }

  pub part_right : PartRight slots p d f i (stretch_of slots p d f i)
  part_right = subst (PartRight slots p d f i) (sym handed) right

pub stretch-by-rule : StretchByRule
stretch-by-rule = record {
  part = part_right;
  itself = λ p published draft r s a b. (a.block ∙ sym b.block, a.place ∙ sym b.place, a.entries ∙ sym b.entries);
  length-told = λ was slots p d f i z. worked _ was _ z ∙ (part_right slots p d f i z).size;
  length-kept = λ was slots p d f i h. kept _ was _ h;
}

-- ---- the walk

module _ (slots : ℕ) (f : List ℕ) where
  more_parts : (n at : ℕ) → ltb at slots ≡ true
      → parts_from (suc n) slots f at ≡ part_at slots f at ∷ parts_from n slots f (next_change slots f at)
  unfolding parts_from
  more_parts n at t = ap (λ (b : Bool). cond b (part_at slots f at ∷ parts_from n slots f (next_change slots f at)) []) t

  no-parts : (n at : ℕ) → ltb at slots ≡ false → parts_from (suc n) slots f at ≡ []
  unfolding parts_from
  no-parts n at t = ap (λ (b : Bool). cond b (part_at slots f at ∷ parts_from n slots f (next_change slots f at)) []) t

  -- what holds of no part at the end, and of one part more in front, holds of the walk
  walk-by : (P : ℕ → List Part → Type 0) → ((at : ℕ) → slots ≤ at → P at [])
      → ((at : ℕ) (l : List Part) → at < slots → P (next_change slots f at) l → P at (part_at slots f at ∷ l))
      → (n at : ℕ) → slots ≤ at + n → P at (parts_from n slots f at)
  unfolding parts_from
  walk-by P ends more zero at h = ends at (omega (arith, h))
  walk-by P ends more (suc n) at h =
      by-test (ltb at slots) _
      (λ t.
      let b = ltb-true at slots t in
      let C = change-is slots f at b in
      subst (P at) (sym (more_parts n at t))
      (more at (parts_from n slots f (next_change slots f at)) b
      (walk-by P ends more n (next_change slots f at) (omega (arith, h, C.later)))))
      (λ t. subst (P at) (sym (no-parts n at t)) (ends at (ltb-false at slots t)))

  abbrev Shows : ℕ → List Part → Type 0
  Shows at l = part_slots l ≡ slots_from at (slots - at)

  -- one part more in front
  slots-more : (at : ℕ) (l : List Part) → at < slots → Shows (next_change slots f at) l → Shows at (part_at slots f at ∷ l)
  unfolding part_at
  slots-more at l h e =
      let C = change-is slots f at h in
      let n = next_change slots f at in
      ap (λ (m : List ℕ). slots_from at (n - at) ++ m)
      (e ∙ ap (λ (x : ℕ). slots_from x (slots - n)) (let q : n ≡ at + (n - at) = omega (arith, C.later) in q))
      ∙ sym (slots-join (n - at) (slots - n) at)
      ∙ ap (slots_from at) (let q : (n - at) + (slots - n) ≡ slots - at = omega (arith, C.later, C.within) in q)

  walk-slots : part_slots (all_parts slots f) ≡ slots_from 0 slots
  walk-slots =
      walk-by Shows (λ at h. sym (slots-none at) ∙ ap (slots_from at) (let q : 0 ≡ slots - at = omega (arith, h) in q)) slots-more slots 0
      (let q : slots ≤ 0 + slots = omega arith in q)
      ∙ ap (slots_from 0) (let q : slots - 0 ≡ slots = omega arith in q)

  -- a walk that goes on from slot `at`
  abbrev GoesOn : ℕ → List Part → Type 0
  GoesOn at [] = slots ≤ at
  GoesOn at (q ∷ l) = (q ≡ part_at slots f at) × (at < slots) × InTurn slots f (q ∷ l)

  turn_more : (at : ℕ) (l : List Part) → at < slots → GoesOn (next_change slots f at) l → GoesOn at (part_at slots f at ∷ l)
  unfolding part_at
  turn_more at [] h g = (refl, h, refl)
  turn_more at (q ∷ l) h g =
      let C = change-is slots f at h in
      (refl, h, (refl, sym (ap (λ (x : Part). x.from) g.0), ap (λ (x : Part). x.is_published) g.0 ∙ C.changes g.1, g.2))

  in-turn : (at : ℕ) (l : List Part) → GoesOn at l → InTurn slots f l
  in-turn at [] g = tt
  in-turn at (q ∷ l) g = g.2

  walk-in-turn : InTurn slots f (all_parts slots f)
  walk-in-turn =
      in-turn 0 (all_parts slots f) (walk-by GoesOn (λ at h. h) turn_more slots 0 (let q : slots ≤ 0 + slots = omega arith in q))

-- the owners of the walk are those that are read, over any list with room for them
module _ (slots : ℕ) (p d f : List ℕ) (S : Sound slots p d f) (m : List ℕ) (room : slots ≤ length m) where
  abbrev made : List ℕ
  made = over (owner_read p d f) slots m

  part-made : (at : ℕ) → at < slots → owners_of (part_at slots f at) p d ≡ take (next_change slots f at - at) (drop at made)
  part-made at h =
      let C = change-is slots f at h in
      let n = next_change slots f at in
      let len = part_length slots p d f S at h in
      let long : length made ≡ length m = length_over (owner_read p d f) slots m in
      let dropped = length-drop at made in
      let taken = length-take-le (n - at) (drop at made) (omega (arith, dropped, long, room, C.within)) in
      ext_get_or 0 (owners_of (part_at slots f at) p d) (take (n - at) (drop at made)) (len ∙ sym taken)
      (λ k b.
      let here : k < n - at = omega (arith, b, len) in
      part-reads slots p d f S at h k here
      ∙ sym (get_or-take (n - at) (drop at made) k 0 here ∙ get_or-drop at made k 0
      ∙ get_d_over (owner_read p d f) slots m (at + k) (omega (arith, here, C.within)) (omega (arith, here, C.within, room))))

  abbrev Reads : ℕ → List Part → Type 0
  Reads at l = part_owners l p d ≡ take (slots - at) (drop at made)

  owners-more : (at : ℕ) (l : List Part) → at < slots → Reads (next_change slots f at) l → Reads at (part_at slots f at ∷ l)
  owners-more at l h e =
      let C = change-is slots f at h in
      let n = next_change slots f at in
      ap₂ (λ (x y : List ℕ). x ++ y) (part-made at h)
      (e ∙ ap (take (slots - n))
      (sym (drop-drop (n - at) at made ∙ ap (λ (x : ℕ). drop x made) (let q : at + (n - at) ≡ n = omega (arith, C.later) in q))))
      ∙ sym (take-add (n - at) (slots - n) (drop at made))
      ∙ ap (λ (x : ℕ). take x (drop at made)) (let q : (n - at) + (slots - n) ≡ slots - at = omega (arith, C.later, C.within) in q)

  walk-owners : part_owners (all_parts slots f) p d ≡ take slots made
  walk-owners =
      walk-by slots f Reads (λ at h. ap (λ (x : ℕ). take x (drop at made)) (let q : 0 ≡ slots - at = omega (arith, h) in q)) owners-more
      slots 0 (let q : slots ≤ 0 + slots = omega arith in q)
      ∙ ap (λ (x : ℕ). take x made) (let q : slots - 0 ≡ slots = omega arith in q)

over-past : (g : ℕ → ℕ) (n : ℕ) (l : List ℕ) → drop n (over g n l) ≡ drop n l
over-past g n l =
    ext_get_or 0 (drop n (over g n l)) (drop n l)
    (length-drop n (over g n l) ∙ ap (λ (x : ℕ). x - n) (length_over g n l) ∙ sym (length-drop n l))
    (λ k b. get_or-drop n (over g n l) k 0 ∙ get_d-over-out g n l (n + k) (let q : n ≤ n + k = omega arith in q) ∙ sym (get_or-drop n l k 0))

-- by whether anything is refused
by_number : {A : Type 0} (X : A → Type 0) (n : ℕ) (old new : A) → X old → (n ≡ 0 → X new) → X (unless n old new)
by_number X n old new x y = elim (ℕ_discrete n 0) [
  | yes z ↦ subst X (sym (worked n old new z)) (y z)
  | no h ↦ subst X (sym (kept n old new h)) x
]

pub walk-by-rule : WalkByRule
unfolding publish_of show_of
walk-by-rule = record {
  slots = walk-slots;
  parts = walk-in-turn;
  shows = λ slots p d f z.
      let S = columns-says slots p d f z in
      walk-owners slots p d f S p S.room ∙ sym (ap (take slots) (worked _ p (over (owner_read p d f) slots p) z));
  screen = λ slots p d f shown z.
      let S = show-says slots p d f shown z in
      ap (take slots) (worked _ shown (over (owner_read p d f) slots shown) z) ∙ sym (walk-owners slots p d f S.0 shown S.1);
  past = λ slots p d f shown.
      by_number (λ (x : List ℕ). drop slots x ≡ drop slots shown) _ shown (over (owner_read p d f) slots shown) refl
      (λ z. over-past (owner_read p d f) slots shown);
}

-- ---- publishing

module _ (slots : ℕ) (p d f : List ℕ) where
  abbrev new : List ℕ
  new = over (owner_read p d f) slots p

  others-read : number_of (columns_row slots p d f) ≡ 0 → (k : ℕ) → k < slots → is_frozen f k ≡ false
      → get_or (publish_of slots d f p) k 0 ≡ get_or d k 0
  unfolding publish_of
  others-read z k h t =
      let S = columns-says slots p d f z in
      ap (λ (l : List ℕ). get_or l k 0) (worked _ p new z) ∙ get_d_over (owner_read p d f) slots p k h (omega (arith, S.room, h))
      ∙ read-open p d f k t

  frozen-stay : (k : ℕ) → is_frozen f k ≡ true → get_or (publish_of slots d f p) k 0 ≡ get_or p k 0
  unfolding publish_of
  frozen-stay k t =
      by_number (λ (l : List ℕ). get_or l k 0 ≡ get_or p k 0) (number_of (columns_row slots p d f)) p new refl
      (λ z.
      let S = columns-says slots p d f z in
      ⊎_elim
      (λ (h : k < slots). get_d_over (owner_read p d f) slots p k h (omega (arith, S.room, h)) ∙ read-frozen p d f k t)
      (λ (h : slots ≤ k). get_d-over-out (owner_read p d f) slots p k h) (lt-or-ge k slots))

  past-stay : (k : ℕ) → slots ≤ k → get_or (publish_of slots d f p) k 0 ≡ get_or p k 0
  unfolding publish_of
  past-stay k h =
      by_number (λ (l : List ℕ). get_or l k 0 ≡ get_or p k 0) (number_of (columns_row slots p d f)) p new refl
      (λ z. get_d-over-out (owner_read p d f) slots p k h)

  as_long : length (publish_of slots d f p) ≡ length p
  unfolding publish_of
  as_long =
      by_number (λ (l : List ℕ). length l ≡ length p) (number_of (columns_row slots p d f)) p new refl
      (λ z. length_over (owner_read p d f) slots p)

  same_row : (q : List ℕ) → length q ≡ length p → number_of (columns_row slots q d f) ≡ number_of (columns_row slots p d f)
  unfolding columns_row
  same_row q e =
      ap (λ (n : ℕ). number_of (test 1 (slot_count_ok slots) ∷ test 2 (eqb n (length d)) ∷ test 2 (leb slots n)
      ∷ test 2 (leb 16 (length f)) ∷ [])) e

  reads_same : (k : ℕ) → owner_read (publish_of slots d f p) d f k ≡ owner_read p d f k
  reads_same k =
      by-test (is_frozen f k) _ (λ t. read-frozen (publish_of slots d f p) d f k t ∙ frozen-stay k t ∙ sym (read-frozen p d f k t))
      (λ t. read-open (publish_of slots d f p) d f k t ∙ sym (read-open p d f k t))

  published-once : number_of (columns_row slots p d f) ≡ 0 → publish_of slots d f p ≡ new
  unfolding publish_of
  published-once z = worked (number_of (columns_row slots p d f)) p new z

  -- of a column that was published each entry is what is read already
  settled : number_of (columns_row slots p d f) ≡ 0 → (j : ℕ) → j < slots → get_or new j 0 ≡ owner_read new d f j
  settled z j h =
      let S = columns-says slots p d f z in
      by-test (is_frozen f j) _ (λ t. sym (read-frozen new d f j t))
      (λ t.
      get_d_over (owner_read p d f) slots p j h (omega (arith, S.room, h)) ∙ read-open p d f j t ∙ sym (read-open new d f j t))

  publish-twice : publish_of slots d f (publish_of slots d f p) ≡ publish_of slots d f p
  unfolding publish_of
  publish-twice =
      by_number (λ (l : List ℕ). l ≡ publish_of slots d f p) (number_of (columns_row slots (publish_of slots d f p) d f))
      (publish_of slots d f p) (over (owner_read (publish_of slots d f p) d f) slots (publish_of slots d f p)) refl
      (λ z.
      let y = sym (same_row (publish_of slots d f p) as_long) ∙ z in
      let e = published-once y in
      ap (λ (l : List ℕ). over (owner_read l d f) slots l) e ∙ sym (over-right (owner_read new d f) slots new (settled y)) ∙ sym e)

pub publish-by-rule : PublishByRule
publish-by-rule = record {
  others = others-read;
  frozen = frozen-stay;
  past = past-stay;
  as_long = as_long;
  twice = publish-twice;
  again = λ slots p d f. same_row slots p d f (publish_of slots d f p) (as_long slots p d f);
  reads = reads_same;
}

-- ---- plays

pub play-keeps-read : PlayKeepsRead built
unfolding is_frozen
play-keeps-read = record {
  alike = λ c z p k h t e. e ∙ sym (frozen-keep c z k h t);
  reads = λ c p k t. read-frozen p _ c.frozen k t ∙ sym (read-frozen p c.owners c.frozen k t);
}

-- ---- the worked example

pub six-slots : SixSlots
unfolding columns_row stretch_row stretch_of part_at next_change is_frozen next_with up slot bit_of number_of unless slot_count_ok publish_of over
    owner_read parts_from
six-slots = record {
  accepted = refl;
  slot-0 = (refl, refl);
  slot-1 = (refl, refl);
  slot-2 = (refl, refl);
  slot-3 = (refl, refl);
  slot-4 = (refl, refl);
  slot-5 = (refl, refl);
  slot-6 = (refl, refl);
  longer = (refl, refl);
  walk = refl;
  published = refl;
}
