-- Striking person by person leads to every unit's mask. Assumes nothing.
use mathlib.Core.Path.{◌≡◌, refl, sym, ap, ◌∙◌}
use mathlib.Core.Logic.{⊎_elim, ◌≢◌}
use mathlib.Core.Bool.{Bool, true, false, ◌&&◌, ◌||◌, not, cond, and-false, or-true}
use mathlib.Core.List.{List}
use Prim.Native.Nat.{ℕ, ◌+◌, ◌-◌, ◌^◌, ◌≤◌, ◌<◌}
use native.Mathlib.Omega.{arith}
use borrow.Author.Tests.{eq-eqb, ne_eqb, eqb-true, eqb-false, lt-ltb, le-ltb}
use lib.Dec.{eqb, ltb}
use lib.ListN.{length, get_or, set}
use Rattle.paper.specs.Count.{over, FirstWhere}
use Rattle.paper.proofs.Logic.{by-test, lt-or-ge}
use Rattle.paper.proofs.Count.{sum-change, in-fails, each_in}
use Rattle.paper.proofs.Count.{length_over, get_d_over, over-set, over-same, over-again}
use Rattle.units.specs.Units.{unit_start, unit_end, units_ok, InUnit}
use Rattle.units.specs.Domains.{available, able, mask_of, unit_mask}
use Rattle.units.specs.Inside.{MaskRoom, judged, mask_then}
use Rattle.units.proofs.Units.{unit-some, unit-within, units-apart, starts-far}
use Rattle.units.proofs.MaskBits.{mask-same}

-- ---- striking, where g q v says whether person q fits unit v

module _ (g : ℕ → ℕ → Bool) (people : ℕ) where
  abbrev stands : ℕ → ℕ → ℕ → ℕ → Bool
  stands p u v q = not (judged p u v q) || g q v

  abbrev left : ℕ → ℕ → ℕ → ℕ
  left p u v = mask_of (stands p u v) people

  -- nobody is judged at first, everybody at last; and a person after the last unit is the next one before the first
  left-first : (v : ℕ) → left 0 0 v ≡ mask_of (λ _. true) people
  unfolding judged
  left-first v =
      mask-same (stands 0 0 v) (λ _. true) people
      (λ q h. simp (le-ltb q 0 (omega arith), le-ltb v 0 (omega arith)) (ap (λ (b : Bool). not b || g q v) (and-false (eqb q 0))))

  left-last : (v : ℕ) → left people 0 v ≡ mask_of (λ q. g q v) people
  unfolding judged
  left-last v = mask-same (stands people 0 v) (λ q. g q v) people (λ q h. simp (lt-ltb q people h))

  left-next : (p units v : ℕ) → v < units → left p units v ≡ left (p + 1) 0 v
  unfolding judged
  left-next p units v h =
      mask-same (stands p units v) (stands (p + 1) 0 v) people (λ q r. ap (λ (b : Bool). not b || g q v) (same q))
    where
      same : (q : ℕ) → ltb q p || (eqb q p && ltb v units) ≡ ltb q (p + 1) || (eqb q (p + 1) && ltb v 0)
      same q =
          ⊎_elim
          (λ (a : q < p). simp (lt-ltb q p a, lt-ltb q (p + 1) (omega arith)))
          (λ (a : p ≤ q).
          by-test (eqb q p) _
          (λ t.
          let e = eqb-true q p t in
          simp (le-ltb q p a, t, lt-ltb v units h, lt-ltb q (p + 1) (omega arith)))
          (λ f.
          let n = eqb-false q p f in
          simp (le-ltb q p a, f, le-ltb q (p + 1) (omega (arith, n)), le-ltb v 0 (omega arith)) (sym (and-false (eqb q (p + 1))))))
          (lt-or-ge q p)

  -- a unit that is judged in both, or in neither
  left-same : (p u w v : ℕ) → ltb v u ≡ ltb v w → left p u v ≡ left p w v
  unfolding judged
  left-same p u w v e = ap (λ (b : Bool). mask_of (λ q. not (ltb q p || (eqb q p && b)) || g q v) people) e

  -- the units from u up to w that person p fits may be judged
  left-skip : (p u w v : ℕ) → u ≤ w → ((x : ℕ) → u ≤ x → x < w → g p x ≡ true) → left p u v ≡ left p w v
  unfolding judged
  left-skip p u w v h fits =
      ⊎_elim (λ (a : v < u). left-same p u w v (lt-ltb v u a ∙ sym (lt-ltb v w (omega arith))))
      (λ (a : u ≤ v).
      ⊎_elim
      (λ (b : v < w).
      mask-same (stands p u v) (stands p w v) people
      (λ q r. by-test (eqb q p) _
      (λ t.
      let y : g q v ≡ true = ap (λ (x : ℕ). g x v) (eqb-true q p t) ∙ fits v a b in
      ap (λ (z : Bool). not (judged p u v q) || z) y ∙ or-true (not (judged p u v q)) ∙ sym (or-true (not (judged p w v q)))
      ∙ ap (λ (z : Bool). not (judged p w v q) || z) (sym y))
      (λ f. simp f)))
      (λ (b : w ≤ v). left-same p u w v (le-ltb v u a ∙ sym (le-ltb v w b))) (lt-or-ge v w))
      (lt-or-ge v u)

  -- person p is struck from unit u, and the other masks stay
  left-strike : (p u : ℕ) → p < people → g p u ≡ false → left p (u + 1) u + 2 ^ p ≡ left p u u
  unfolding mask_of judged
  left-strike p u h f =
      let before : ℕ → ℕ = λ q. cond (stands p u u q) (2 ^ q) 0 in
      let after : ℕ → ℕ = λ q. cond (stands p (u + 1) u q) (2 ^ q) 0 in
      let b : before p ≡ 2 ^ p = simp (le-ltb p p (omega arith), eq-eqb p p refl, le-ltb u u (omega arith)) in
      let a : after p ≡ 0 = simp (le-ltb p p (omega arith), eq-eqb p p refl, lt-ltb u (u + 1) (omega arith), f) in
      omega (arith, sum-change people p before after h (λ q n. simp (ne_eqb q p n)), b, a)

  left_other : (p u v : ℕ) → v ≢ u → left p u v ≡ left p (u + 1) v
  left_other p u v n =
      left-same p u (u + 1) v
      (⊎_elim (λ (a : v < u). lt-ltb v u a ∙ sym (lt-ltb v (u + 1) (omega arith)))
      (λ (a : u ≤ v). le-ltb v u a ∙ sym (le-ltb v (u + 1) (omega (arith, n)))) (lt-or-ge v u))

-- ---- the walk over the units, in the lent masks

-- a stretch that begins with a slot that p lacks ends after it
pub gap-before : (avail : List ℕ) (p gap slots had : ℕ) → FirstWhere true (available avail p) gap slots had → gap < slots
    → available avail p gap ≡ false → gap < had
gap-before avail p gap slots had F l z =
    ⊎_elim (λ (h : gap < had). h)
    (λ (h : had ≤ gap).
    let e : had ≡ gap = omega (arith, F.from) in
    absurd (mathlib.Core.Bool.true≢false (sym (F.here (omega arith)) ∙ ap (available avail p) e ∙ z)))
    (lt-or-ge gap had)

-- so a unit that starts where it ends, or later, is not the one that holds its first slot
pub past : (begins : List ℕ) (v w gap had : ℕ) → v ≤ w → unit_start begins v ≤ gap → gap < had → had ≤ unit_start begins w → v < w
past begins v w gap had h s g b =
    ⊎_elim (λ (l : v < w). l)
    (λ (l : w ≤ v). let e : v ≡ w = omega arith in absurd (omega (arith, ap (unit_start begins) e)))
    (lt-or-ge v w)

-- a unit that starts in a stretch that p lacks, or holds its first slot, is not fit for p
pub lacks-unit : (avail : List ℕ) (slots units : ℕ) (begins : List ℕ) → units_ok slots units begins ≡ true → (p v gap had w : ℕ)
    → InUnit slots units begins gap v → available avail p gap ≡ false
    → ((k : ℕ) → gap ≤ k → k < had → available avail p k ≡ false) → v ≤ w → w < units → unit_start begins w < had
    → able avail (unit_start begins w) (unit_end slots units begins w) p ≡ false
unfolding able
lacks-unit avail slots units begins ok p v gap had w I z lacks h l b =
    ⊎_elim
    (λ (c : v < w).
    let s = unit_start begins w in
    sym (in-fails s s (unit_end slots units begins w) (available avail p) (omega arith) (unit-some slots units begins ok w l)
    (lacks s (omega (arith, units-apart slots units begins ok v w c l, I.to)) b)))
    (λ (c : w ≤ v).
    let e : v ≡ w = omega arith in
    let f : able avail (unit_start begins v) (unit_end slots units begins v) p ≡ false
    = sym (in-fails (unit_start begins v) gap (unit_end slots units begins v) (available avail p) I.from I.to z) in
    ap (λ (x : ℕ). able avail (unit_start begins x) (unit_end slots units begins x) p) (sym e) ∙ f)
    (lt-or-ge v w)

module _ (avail : List ℕ) (people slots units : ℕ) (begins : List ℕ) where
  abbrev then : ℕ → ℕ → ℕ → ℕ
  then p u = mask_then avail people slots units begins p u

  abbrev fits : ℕ → ℕ → Bool
  fits p v = able avail (unit_start begins v) (unit_end slots units begins v) p

  -- everybody stands in each mask, nobody is judged
  pub strikes-begin : (masks : List ℕ) → over (λ _. mask_of (λ _. true) people) units masks ≡ over (then 0 0) units masks
  unfolding mask_then
  strikes-begin masks = over-same (λ _. mask_of (λ _. true) people) (then 0 0) units masks (λ v h. sym (left-first fits people v))

  -- everybody is judged
  pub strikes-end : (p : ℕ) (masks : List ℕ) → p ≡ people
      → over (then p 0) units masks ≡ over (unit_mask avail people slots units begins) units masks
  unfolding mask_then unit_mask
  strikes-end p masks e =
      ap (λ (q : ℕ). over (then q 0) units masks) e
      ∙ over-same (then people 0) (unit_mask avail people slots units begins) units masks (λ v h. left-last fits people v)

  -- one person is judged for every unit
  pub strikes-next : (p u : ℕ) (masks : List ℕ) → u ≡ units → over (then p u) units masks ≡ over (then (p + 1) 0) units masks
  unfolding mask_then
  strikes-next p u masks e =
      ap (λ (w : ℕ). over (then p w) units masks) e
      ∙ over-same (then p units) (then (p + 1) 0) units masks (λ v h. left-next fits people p units v h)

  -- masks hold what they were made anew with, and what they held before does not count
  pub strikes-held : (p u w : ℕ) (old masks : List ℕ) → masks ≡ over (then p u) units old
      → over (then p u) units old ≡ over (then p w) units old
      → masks ≡ over (then p w) units masks
  strikes-held p u w old masks e s =
      e ∙ s ∙ sym (ap (over (then p w) units) e ∙ over-again (then p u) (then p w) units old)

  pub strikes-again : (p u q w : ℕ) (old masks new : List ℕ) → masks ≡ over (then p u) units old → new ≡ over (then q w) units masks
      → new ≡ over (then q w) units old
  strikes-again p u q w old masks new e d =
      d ∙ ap (over (then q w) units) e ∙ over-again (then p u) (then q w) units old

  -- and have the room that they had
  pub room-kept : (p u : ℕ) (old masks : List ℕ) → masks ≡ over (then p u) units old → MaskRoom avail people slots units begins old
      → MaskRoom avail people slots units begins masks
  room-kept p u old masks e R =
      record {
        counted = R.counted;
        words = R.words;
        short = R.short;
        right = R.right;
        room = omega (arith, ap length e, length_over (then p u) units old, R.room);
      }

  module _ (ok : units_ok slots units begins ≡ true) (p : ℕ) where
    -- p has every slot from the start of unit u up to `gap`: the units that end by then are fit for p
    strikes-skip : (u w gap : ℕ) (masks : List ℕ) → u ≤ w → w ≤ units → ((k : ℕ) → unit_start begins u ≤ k → k < gap
        → available avail p k ≡ true)
        → ((x : ℕ) → x < w → unit_end slots units begins x ≤ gap) → over (then p u) units masks ≡ over (then p w) units masks
    unfolding mask_then able
    strikes-skip u w gap masks h l had ends =
        over-same (then p u) (then p w) units masks
        (λ v b. left-skip fits people p u w v h
        (λ x a c.
        each_in (unit_start begins x) (unit_end slots units begins x) (available avail p)
        (λ k d e. had k (omega (arith, starts-far slots units begins ok u x a (omega arith))) (omega (arith, ends x c)))))

    module _ (u gap : ℕ) (masks : List ℕ) (had : (k : ℕ) → unit_start begins u ≤ k → k < gap → available avail p k ≡ true) where
      -- that is up to the unit that holds the gap; with no gap left, up to the last
      pub skip-to-gap : (v : ℕ) → u ≤ v → InUnit slots units begins gap v → over (then p u) units masks ≡ over (then p v) units masks
      skip-to-gap v h I =
          strikes-skip u v gap masks h (omega (arith, I.known)) had
          (λ x l. omega (arith, units-apart slots units begins ok x v l I.known, I.from))

      pub skip-rest : u ≤ units → slots ≤ gap → over (then p u) units masks ≡ over (then (p + 1) 0) units masks
      skip-rest h g =
          strikes-skip u units gap masks h (omega arith) had (λ x l. omega (arith, unit-within slots units begins ok x l))
          ∙ strikes-next p units masks refl

    module _ (old masks : List ℕ) (w bit : ℕ) (room : units ≤ length old) (e : masks ≡ over (then p w) units old) (l : w < units) where
      module _ (h : p < people) (b : bit ≡ 2 ^ p) (f : fits p w ≡ false) where
        at : get_or masks w 0 ≡ then p w w
        at = ap (λ (m : List ℕ). get_or m w 0) e ∙ get_d_over (then p w) units old w l (omega arith)

        struck : then p (w + 1) w + 2 ^ p ≡ then p w w
        unfolding mask_then
        struck = left-strike fits people p w h f

        -- with a bit to strike, and then one unit more is judged
        pub strike-bit : bit ≤ get_or masks w 0
        strike-bit = omega (arith, at, struck, b)

        pub strike-unit : set masks w (get_or masks w 0 - bit) ≡ over (then p (w + 1)) units old
        unfolding mask_then
        strike-unit =
            ap (λ (m : List ℕ). set m w (get_or masks w 0 - bit)) e
            ∙ over-set (then p w) (then p (w + 1)) units old w (get_or masks w 0 - bit) l (omega (arith, at, struck, b))
            (λ v n. left_other fits people p w v n)
