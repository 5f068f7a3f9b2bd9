-- The list written repair by repair. Assumes nothing.
use mathlib.Core.Path.{◌≡◌, refl, sym, ap, ap₂, subst, ◌∙◌}
use mathlib.Core.Bool.{Bool, true, false, not}
use mathlib.Core.List.{List, [], ◌∷◌, ◌++◌, map, map-append, append_assoc, append-nil}
use Prim.Native.Nat.{ℕ, zero, suc, ◌+◌, ◌-◌, ◌*◌, ◌≤◌, ◌<◌}
use native.Mathlib.Numerals.{add-one}
use native.Mathlib.Omega.{arith}
use borrow.Author.Tests.{eq-eqb, ne_eqb}
use lib.Dec.{eqb}
use lib.ListN.{length, drop, get_or, set, length-map, length-append, length-drop}
use lib.Seq.{sets, append_snoc}
use Rattle.paper.specs.Count.{among, count, onto}
use Rattle.paper.proofs.Logic.{by-test}
use Rattle.paper.proofs.Count.{among_in, among-out, among-count, count_none, count-in}
use Rattle.paper.proofs.Count.{count-out, sum-rises, onto-none, onto-more, among-le}
use Rattle.owners.specs.Derived.{derived}
use Rattle.mend.specs.Repairs.{Rota, rota, column, entries, flag_of, Repair}
use Rattle.mend.specs.Repairs.{differs_at, repair_at, repairs_of, repairs_in, repairs, numbers}
use Rattle.mend.specs.Inside.{Listed, Lists, differences, how_many}

-- ---- two entries that are read

module _ (old new : List ℕ) (k was is : ℕ) (ew : was ≡ get_or old k 0) (ei : is ≡ get_or new k 0) where
  pub differs-no : was ≡ is → differs_at old new k ≡ false
  unfolding differs_at
  differs-no q = ap not (eq-eqb _ _ (sym ew ∙ q ∙ ei))

  pub differs-yes : (was ≡ is → ⊥) → differs_at old new k ≡ true
  unfolding differs_at
  differs-yes d = ap not (ne_eqb _ _ (λ q. d (ew ∙ q ∙ sym ei)))

-- the repair of place k, by what is read of it
pub repair-is : (part : ℕ) (flag : ℕ → ℕ) (old new : List ℕ) (k was is f : ℕ) → was ≡ get_or old k 0 → is ≡ get_or new k 0 → f ≡ flag k
    → ◌≡◌ {A = Repair} (record { part = part; place = k; old = was; new = is; frozen = f }) (repair_at part flag old new k)
repair-is part flag old new k was is f a b c =
    ap₂ {C = Repair} (λ (x y : ℕ). record { part = part; place = k; old = x; new = y; frozen = f }) a b
    ∙ ap {B = Repair} (λ (x : ℕ). record { part = part; place = k; old = get_or old k 0; new = get_or new k 0; frozen = x }) c

-- ---- the repairs of one column

module _ (part : ℕ) (flag : ℕ → ℕ) (old new : List ℕ) where
  pub repairs-none : repairs_of part flag 0 old new ≡ []
  unfolding repairs_of among
  repairs-none = refl

  pub repairs-in : (k : ℕ) → differs_at old new k ≡ true
      → repairs_of part flag (k + 1) old new ≡ repairs_of part flag k old new ++ (repair_at part flag old new k ∷ [])
  unfolding repairs_of
  repairs-in k t =
      ap (map (repair_at part flag old new)) (among_in (differs_at old new) k t)
      ∙ map-append (repair_at part flag old new) (among (differs_at old new) k) (k ∷ [])

  pub repairs-out : (k : ℕ) → differs_at old new k ≡ false → repairs_of part flag (k + 1) old new ≡ repairs_of part flag k old new
  unfolding repairs_of
  repairs-out k f = ap (map (repair_at part flag old new)) (among-out (differs_at old new) k f)

  pub repairs-length : (n : ℕ) → length (repairs_of part flag n old new) ≡ count n (differs_at old new)
  unfolding repairs_of
  repairs-length n = length-map (among (differs_at old new) n) (repair_at part flag old new) ∙ among-count (differs_at old new) n

-- only the entries below n matter
pub repairs-same : (part : ℕ) (flag : ℕ → ℕ) (old new new' : List ℕ) (n : ℕ) → ((k : ℕ) → k < n → get_or new k 0 ≡ get_or new' k 0)
    → repairs_of part flag n old new ≡ repairs_of part flag n old new'
unfolding differs_at
repairs-same part flag old new new' zero f = repairs-none part flag old new ∙ sym (repairs-none part flag old new')
repairs-same part flag old new new' (suc n) f =
    let e = f n (omega arith) in
    let rest = repairs-same part flag old new new' n (λ k h. f k (omega arith)) in
    let d : differs_at old new n ≡ differs_at old new' n = ap (λ (x : ℕ). not (eqb (get_or old n 0) x)) e in
    ap (λ (k : ℕ). repairs_of part flag k old new) (sym (add-one n))
    ∙ by-test (differs_at old new n) _
    (λ t.
    repairs-in part flag old new n t
    ∙ ap₂ (λ (rs : List Repair) (x : ℕ). rs ++ (record { part = part; place = n; old = get_or old n 0; new = x; frozen = flag n } ∷ []))
    rest e
    ∙ sym (repairs-in part flag old new' n (sym d ∙ t)))
    (λ u. repairs-out part flag old new n u ∙ rest ∙ sym (repairs-out part flag old new' n (sym d ∙ u)))
    ∙ ap (λ (k : ℕ). repairs_of part flag k old new') (add-one n)

-- ---- five numbers each

pub numbers-append : (rs qs : List Repair) → numbers (rs ++ qs) ≡ numbers rs ++ numbers qs
unfolding numbers
numbers-append [] qs = refl
numbers-append (r ∷ rs) qs =
    ap (λ (l : List ℕ). r.part ∷ r.place ∷ r.old ∷ r.new ∷ r.frozen ∷ l) (numbers-append rs qs)

pub numbers-length : (rs : List Repair) → length (numbers rs) ≡ 5 * length rs
unfolding numbers
numbers-length [] = refl
numbers-length (r ∷ rs) = omega (arith, numbers-length rs)

-- stores one after the other, from the end of what was written
onto-sets : (vs l old : List ℕ) (i : ℕ) → i ≡ length l → i + length vs ≤ length old → sets (onto l old) i vs ≡ onto (l ++ vs) old
onto-sets [] l old i e h = ap (λ (x : List ℕ). onto x old) (sym (append-nil l))
onto-sets (v ∷ vs) l old i e h =
    ap (λ (x : List ℕ). sets x (suc i) vs) (ap (λ (j : ℕ). set (onto l old) j v) e ∙ onto-more l old v (omega arith))
    ∙ onto-sets vs (l ++ (v ∷ [])) old (suc i) (omega (arith, length-append l (v ∷ []))) (omega arith)
    ∙ ap (λ (x : List ℕ). onto x old) (append_snoc l v vs)

five-stores : (l : List ℕ) (i a b c d e : ℕ) → set (set (set (set (set l i a) (i + 1) b) (i + 2) c) (i + 3) d) (i + 4) e ≡
    sets l i (a ∷ b ∷ c ∷ d ∷ e ∷ [])
five-stores l i a b c d e =
    let q1 : i + 1 ≡ suc i = omega arith in
    let q2 : i + 2 ≡ suc (suc i) = omega arith in
    let q3 : i + 3 ≡ suc (suc (suc i)) = omega arith in
    let q4 : i + 4 ≡ suc (suc (suc (suc i))) = omega arith in
    ap₂ (λ (x y : ℕ). set (set (set (set (set l i a) x b) y c) (i + 3) d) (i + 4) e) q1 q2
    ∙ ap₂ (λ (x y : ℕ). set (set (set (set (set l i a) (suc i) b) (suc (suc i)) c) x d) y e) q3 q4

pub written_one : (part place old new frozen at : ℕ) (list : List ℕ) → 5 * at + 5 ≤ length list → (rs : List Repair) (first : List ℕ)
    → Listed rs first at list
    → Listed (rs ++ (record { part = part; place = place; old = old; new = new; frozen = frozen } ∷ [])) first (at + 1)
    (set (set (set (set (set list (5 * at) part) (5 * at + 1) place) (5 * at + 2) old) (5 * at + 3) new) (5 * at + 4) frozen)
unfolding numbers onto
written_one part place old new frozen at list h rs first L =
    let r : Repair = record { part = part; place = place; old = old; new = new; frozen = frozen } in
    let vs : List ℕ = part ∷ place ∷ old ∷ new ∷ frozen ∷ [] in
    let n : 5 * at ≡ length (numbers rs) = omega (arith, numbers-length rs, L.number) in
    let room : 5 * at + 5 ≤ length first
    = omega (
      arith,
      ap length L.written,
      length-append (numbers rs) (drop (length (numbers rs)) first),
      length-drop (length (numbers
          rs)) first,
    ) in
    record {
      number = omega (arith, L.number, length-append rs (r ∷ []));
      written =
          five-stores list (5 * at) part place old new frozen ∙ ap (λ (l : List ℕ). sets l (5 * at) vs) L.written
          ∙ onto-sets vs (numbers rs) first (5 * at) n room ∙ ap (λ (l : List ℕ). onto l first) (sym (numbers-append rs (r ∷ [])));
    }

-- ---- a column listed as far as place k

pub record Reached (part : ℕ) (flag : ℕ → ℕ) (old new : List ℕ) (n at : ℕ) (list₀ : List ℕ) (k done : ℕ) (list : List ℕ) : Type 0 where
  pub upto : k ≤ n
  pub so_far : done ≡ at + count k (differs_at old new)
  pub long : length list ≡ length list₀
  pub goes : (rs : List Repair) (first : List ℕ) → Listed rs first at list₀ → Listed (rs ++ repairs_of part flag k old new) first done list

listed-none : (l : List ℕ) → Listed [] l 0 l
unfolding numbers
listed-none l = record { number = refl; written = onto-none l }

listed-as : (rs qs : List Repair) (first : List ℕ) (n : ℕ) (list : List ℕ) → rs ≡ qs → Listed rs first n list → Listed qs first n list
listed-as rs qs first n list e L = subst (λ (x : List Repair). Listed x first n list) e L

module _ (part : ℕ) (flag : ℕ → ℕ) (old new : List ℕ) (n at : ℕ) (list₀ : List ℕ) where
  pub reached-none : Reached part flag old new n at list₀ 0 at list₀
  reached-none =
      record {
        upto = omega arith;
        so_far = omega (arith, count_none (differs_at old new));
        long = refl;
        goes = λ rs first L.
            listed-as rs _ first at list₀
            (sym (ap (λ (x : List Repair). rs ++ x) (repairs-none part flag old new) ∙ append-nil rs)) L;
      }

  module _ (k done : ℕ) (list : List ℕ) (R : Reached part flag old new n at list₀ k done list) where
    pub reached-out : k < n → differs_at old new k ≡ false → Reached part flag old new n at list₀ (k + 1) done list
    reached-out h f =
        record {
          upto = omega arith;
          so_far = R.so_far ∙ ap (λ (x : ℕ). at + x) (sym (count-out k (differs_at old new) f));
          long = R.long;
          goes = λ rs first L.
              listed-as _ _ first done list (ap (λ (x : List Repair). rs ++ x) (sym (repairs-out part flag old new k f)))
              (R.goes rs first L);
        }

    pub reached-room : k < n → differs_at old new k ≡ true → 5 * (at + count n (differs_at old new)) ≤ length list₀
        → 5 * done + 5 ≤ length list
    unfolding count
    reached-room h t room =
        let e : k + 1 + (n - (k + 1)) ≡ n = omega arith in
        omega (
          arith,
          R.so_far,
          R.long,
          count-in k (differs_at old new) t,
          sum-rises (k + 1) (n - (k + 1)) (λ j. mathlib.Core.Bool.cond (differs_at old new j) 1 0),
          ap (λ (x : ℕ). count x (differs_at old new)) e,
        )

    pub reached-in : k < n → differs_at old new k ≡ true → (r : Repair) → r ≡ repair_at part flag old new k → (list' : List ℕ)
        → length list' ≡ length list
        → ((rs : List Repair) (first : List ℕ) → Listed rs first done list → Listed (rs ++ (r ∷ [])) first (done + 1) list')
        → Reached part flag old new n at list₀ (k + 1) (done + 1) list'
    reached-in h t r e list' long one =
        record {
          upto = omega arith;
          so_far = omega (arith, R.so_far, count-in k (differs_at old new) t);
          long = long ∙ R.long;
          goes = λ rs first L.
              listed-as _ _ first (done + 1) list'
              (append_assoc rs (repairs_of part flag k old new) (r ∷ [])
              ∙ ap (λ (x : List Repair). rs ++ x)
              (ap (λ (x : Repair). repairs_of part flag k old new ++ (x ∷ [])) e ∙ sym (repairs-in part flag old new k t)))
              (one (rs ++ repairs_of part flag k old new) first (R.goes rs first L));
        }

    pub reached-end : n ≤ k → Lists part flag n old new at done list₀ list
    reached-end h =
        let q : k ≡ n = omega (arith, R.upto) in
        record {
          number = R.so_far ∙ ap (λ (x : ℕ). at + count x (differs_at old new)) q;
          goes = λ rs first L.
              listed-as _ _ first done list (ap (λ (x : ℕ). rs ++ repairs_of part flag x old new) q) (R.goes rs first L);
        }

-- ---- how many they are

pub count-few : (n r : ℕ) (old new : List ℕ) → r ≡ count n (differs_at old new) → r ≤ n
count-few n r old new e = omega (arith, e, among-count (differs_at old new) n, among-le (differs_at old new) n)

module _ (people slots : ℕ) (o s m t o' s' m' t' : List ℕ) where
  abbrev found : Rota
  found = rota o (derived s m t)

  abbrev new : Rota
  new = rota o' (derived s' m' t')

  pub many_is : how_many people slots found new ≡ count slots (differs_at o o') + count (16 * people) (differs_at s s') + count people
      (differs_at m m') + count 2 (differs_at t t')
  unfolding how_many column entries
  many_is = refl

  pub many-few : people ≤ 32 → slots ≤ 1024 → how_many people slots found new ≤ 1570
  many-few h g =
      omega (
        arith,
        many_is,
        count-few slots _ o o' refl,
        count-few (16 * people) _ s s' refl,
        count-few people _ m m' refl,
        count-few 2 _ t t' refl,
      )

  pub many-fits : (n : ℕ) → n ≡ how_many people slots found new → people ≤ 32 → slots ≤ 1024 → n ≤ 1570
  many-fits n e h g = omega (arith, many-few h g)

  -- as many as are listed
  pub many-listed : (frozen : List ℕ) → length (repairs people slots frozen found new) ≡ how_many people slots found new
  unfolding how_many repairs
  many-listed frozen =
      let of = repairs_in people slots frozen found new in
      let k : (p : ℕ) → length (of p) ≡ differences people slots found new p
      = λ p. repairs-length p (flag_of frozen p) (column found p) (column new p) (entries people slots p) in
      omega (
        arith,
        length-append (of 0) (of 1 ++ (of 2 ++ of 3)),
        length-append (of 1) (of 2 ++ of 3),
        length-append (of 2) (of 3),
        k 0,
        k 1,
        k 2,
        k 3,
      )

  -- room for the parts, one after the other
  module _ (len : ℕ) (room : 5 * how_many people slots found new ≤ len) where
    pub room_0 : 5 * (0 + count slots (differs_at o o')) ≤ len
    room_0 = omega (arith, many_is)

    module _ (a : ℕ) (ea : a ≡ 0 + count slots (differs_at o o')) (l : ℕ) (long : l ≡ len) where
      pub room-1 : 5 * (a + count (16 * people) (differs_at s s')) ≤ l
      room-1 = omega (arith, many_is)

      module _ (b : ℕ) (eb : b ≡ a + count (16 * people) (differs_at s s')) where
        pub room-2 : 5 * (b + count people (differs_at m m')) ≤ l
        room-2 = omega (arith, many_is)

        pub room-3 : (c : ℕ) → c ≡ b + count people (differs_at m m') → 5 * (c + count 2 (differs_at t t')) ≤ l
        room-3 c ec = omega (arith, many_is)

  -- and all of them listed
  pub all_listed : (frozen : List ℕ) (a b c d : ℕ) (l₀ l₁ l₂ l₃ l₄ : List ℕ) → Lists 0 (flag_of frozen 0) slots o o' 0 a l₀ l₁
      → Lists 1 (λ _. 0) (16 * people) s s' a b l₁ l₂ → Lists 2 (λ _. 0) people m m' b c l₂ l₃
      → Lists 3 (λ _. 0) 2 t t' c d l₃ l₄ → l₄ ≡ onto (numbers (repairs people slots frozen found new)) l₀
  unfolding repairs column entries flag_of
  all_listed frozen a b c d l₀ l₁ l₂ l₃ l₄ A B C D =
      let of = repairs_in people slots frozen found new in
      let x = A.goes [] l₀ (listed-none l₀) in
      let y = B.goes (of 0) l₀ x in
      let z = C.goes (of 0 ++ of 1) l₀ y in
      let w = D.goes (of 0 ++ of 1 ++ of 2) l₀ z in
      w.written
      ∙ ap (λ (rs : List Repair). onto (numbers rs) l₀)
      (append_assoc (of 0 ++ of 1) (of 2) (of 3) ∙ append_assoc (of 0) (of 1) (of 2 ++ of 3))
