-- Refusal 8 is never given: for people whose figures pass, with a demand and minutes of at most 100,000,000, there are targets.
-- Assumes nothing.
use Rattle.std.proofs.Common.{◌≡◌, ℕ, zero, suc, ◌*◌, ◌^◌, ◌<◌, ◌≤◌, Bool, true, false, T, eqb, leb, List, map, length, ℤ, pos, sym, refl, ap, ◌∙◌, true≢false, zero-le, le_trans, le_of_eq, mul-le-mul_right, zero-lt-suc, mul-le-mul_left, mul-pos, zero-mul, mul-one, arith, lit≤, eqb→eq, leb-true}
use native.Mathlib.Nat.{mul-mul-mul_comm}
use lib.ListN.{length-map}
use lib.Ieee.{Float, nan, inf, fin, binary64, mul, le, fits, up, down, round, of_int, unlike}
use lib.Ieee.Exact.{HasValue}
use lib.Ieee.Fits.{up_pos, down_pos, and_l, round-fits}
use Rattle.targets.specs.declared.Standing.{Standing}
use Rattle.targets.specs.declared.Person.{Person}
use Rattle.targets.specs.Figures.{zero_f, whole, standing_of, figures_ok}
use Rattle.targets.specs.Passes.{settled, settle, unrounded, share_sum, notional, Passed, again, done, refused, passed}
use Rattle.targets.specs.Passes.{passes_leave, guarded}
use Rattle.paper.proofs.Logic.{three}
use Rattle.targets.proofs.Nearest.{held}
use Rattle.targets.proofs.Floats.{Most, Plain, Share, round-most, round-plain, le-cross}
use Rattle.targets.proofs.Guard.{share_most, Good, Goods, whole_val, never-outside}
use Rattle.targets.proofs.Each.{each_map}
use Rattle.targets.proofs.Cases.{by-settled, by-passed, passes-keep}

-- ---- a person's standing

-- a capacity that passes: finite, at most 1000, and 0 if it has the sign
abbrev Cap : Float → Type 0
Cap nan = ⊥
Cap (inf s) = ⊥
Cap (fin s m e) = (m * up e * 1 ≤ 1000 * down e) × (s ≡ true → m * up e ≡ 0)

cap-of : (x : Float) → T (le zero_f x) → T (le x (whole 1000)) → Cap x
unfolding le of_int
cap-of nan a b = absurd a
cap-of (inf true) a b = absurd a
cap-of (inf false) a b = absurd b
cap-of (fin true m e) a b =
    let x = m * up e * 1 in
    let q : 0 * down e ≡ x = eqb→eq (0 * down e) x (and_l (eqb (0 * down e) x) (eqb (0 * down e) 0) a) in
    (omega arith, λ t. omega arith)
cap-of (fin false m e) a b = (le-cross m 125 e (pos 3) b, λ t. absurd (true≢false (sym t)))

pub share-plain : (x : Float) (k : ℕ) → T (fits binary64 x) → Plain x → Most x k 1 → Share x
share-plain nan k f p h = h
share-plain (inf s) k f p h = h
share-plain (fin true m e) k f p h = absurd (true≢false p)
share-plain (fin false m e) k f p h = (f, λ q. absurd (true≢false (sym q)))

no_size : (m : ℕ) (e : ℤ) → m * up e * 1 ≤ 0 * down e → m ≡ 0
no_size zero e h = refl
no_size (suc m) e h = absurd (no (mul-pos (zero-lt-suc m) (up_pos e)) (le_trans h (le_of_eq (zero-mul (down e)))))
  where
    no : 0 < suc m * up e → suc m * up e * 1 ≤ 0 → ⊥
    no p q = omega arith

share-zero : (x : Float) → T (fits binary64 x) → Most x 0 1 → Share x
share-zero nan f h = h
share-zero (inf s) f h = h
share-zero (fin s m e) f h = (f, λ q. no_size m e h)

-- what a raw share must be
pub record Raw (x : Float) : Type 0 where
  pub share : Share x
  pub small : Most x share_most 1

-- capacity times minutes
times : (s : Bool) (m : ℕ) (e : ℤ) (t : Bool) (n : ℕ) (d : ℤ) (b : ℕ) → b ≤ 100000000 → Cap (fin s m e)
    → HasValue (fin t n d) false b 1 → Raw (mul binary64 (fin s m e) (fin t n d))
unfolding mul
times s m e true n d b B c v = absurd (true≢false v.0)
times s m e false n d b B c v = go s c.1
  where
    A : ℕ
    A = m * up e * (n * up d)

    C : ℕ
    C = down e * down d

    p : 0 < C
    p = mul-pos (down_pos e) (down_pos d)

    bound : A ≤ share_most * C
    bound =
        le_trans (mul-le-mul_right (n * up d) (le_trans (le_of_eq (sym (mul-one (m * up e)))) c.0))
        (le_trans (mul-le-mul_left (1000 * down e) (le_trans (le_of_eq (sym (mul-one (n * up d)) ∙ v.1)) (mul-le-mul_right (down d) B)))
        (le_trans (le_of_eq (mul-mul-mul_comm 1000 (down e) 100000000 (down d)))
        (mul-le-mul_right C (lit≤ {m = 100000000000} {n = share_most} tt))))

    w : share_most ≤ 2 ^ 53
    w = lit≤ {m = share_most} {n = 2 ^ 53} tt

    go : (s : Bool) → (s ≡ true → m * up e ≡ 0) → Raw (round binary64 (unlike s false) A C)
    go false z =
        let x = round binary64 false A C in
        let r = round-most false A C share_most p w bound in
        record { share = share-plain x share_most (round-fits binary64 false A C) (round-plain binary64 A C) r; small = r }
    go true z = record {
      share = share-zero (round binary64 true A C) (round-fits binary64 true A C)
          (round-most true A C 0 p zero-le
          (le_of_eq (ap (λ (k : ℕ). k * (n * up d)) (z refl) ∙ zero-mul (n * up d) ∙ sym (zero-mul C))));
      small = round-most true A C share_most p w bound;
    }

raw_of : (x y : Float) (b : ℕ) → b ≤ 100000000 → Cap x → HasValue y false b 1 → Raw (mul binary64 x y)
raw_of nan y b B c v = absurd c
raw_of (inf s) y b B c v = absurd c
raw_of (fin s m e) nan b B c v = absurd v
raw_of (fin s m e) (inf t) b B c v = absurd v
raw_of (fin s m e) (fin t n d) b B c v = times s m e t n d b B c v

pub good-standing : (p : Person) (b : ℕ) → figures_ok p ≡ true → b ≤ 100000000 → Good (standing_of p b)
unfolding figures_ok
good-standing p b f B =
    let c = p.capacity in
    let h = three (le zero_f c) (le c (whole 1000)) (leb p.prior 100000000) f in
    let v = whole_val b (omega arith) in
    let r = raw_of c (whole b) b B (cap-of c (held h.0) (held h.1)) v in
    record { share = r.share; small = r.small; prior = leb-true p.prior 100000000 h.2 }

-- ---- the passes

settled-good : (x : Float) (l : Standing) → Good l → Good (settled x l)
settled-good x l g =
    by-settled x l Good (λ p. g) (λ p z. record { share = g.share; small = g.small; prior = g.prior })
    (λ p z. record { share = g.share; small = g.small; prior = g.prior })

-- at most 32 people, whose figures pass
abbrev pub Fine : Passed → Type 0
Fine (again ls) = (length ls ≤ 32) × Goods ls
Fine (done ls) = (length ls ≤ 32) × Goods ls
Fine refused = ⊥

-- a pass over such people is not refused, and leaves such people
pub fine-passed : (demand : ℕ) (ls : List Standing) → demand ≤ 100000000 → Fine (again ls)
    → Fine (passed (whole (notional demand ls)) (share_sum ls) ls)
fine-passed demand ls D h =
    by-passed n sum ls Fine (λ a. h) (λ a b. absurd (true≢false (sym b ∙ never-outside demand ls D h.0 h.1 a)))
    (λ a b c. new) (λ a b c. new)
  where
    n : Float
    n = whole (notional demand ls)

    sum : Float
    sum = share_sum ls

    new : Fine (again (map (settle n sum) ls))
    new = (
      le_trans (le_of_eq (length-map ls (settle n sum))) h.0,
      each_map Good Good (settle n sum) (λ l g. settled-good (unrounded n sum l) l g) ls h.1,
    )

fine-guarded : (p : Passed) → Fine p → guarded p ≡ true
fine-guarded (again ls) h = refl
fine-guarded (done ls) h = refl
fine-guarded refused h = absurd h

-- the guard is kept, of any such people
pub never-refused : (d : ℕ) (ls : List Standing) → d ≤ 100000000 → length ls ≤ 32 → Goods ls → guarded (passes_leave d ls) ≡ true
never-refused d ls D L g =
    fine-guarded (passes_leave d ls) (passes-keep Fine d (λ ms. fine-passed d ms D) (suc (length ls)) (again ls) (L, g))
