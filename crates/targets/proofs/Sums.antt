-- The targets add up to the demand, whatever the passes leave. Assumes nothing.
use Rattle.std.proofs.Common.{◌≡◌, ℕ, zero, suc, ◌<◌, List, [], ◌∷◌, map, length, get_or, set, ℤ, pos, ◌+ℤ◌, ◌-ℤ◌, neg_ℤ, sym, refl, ap, ◌∙◌, le_of_suc-le-suc, not-suc-le-zero, zero-add}
use lib.IntN.{+ℤ_assoc, +ℤ_comm, +ℤ_idr, +ℤ_invl}
use Rattle.targets.specs.declared.Standing.{Standing}
use Rattle.targets.specs.Figures.{pad}
use Rattle.targets.specs.Remainder.{with_target, total_of, taker_of, target_of, adjusted, sumℤ}
use Rattle.targets.proofs.Each.{sum_standings, fold-sum}
use Rattle.targets.proofs.Taker.{taker-here}

-- the targets of the standings
abbrev pub added_up : List Standing → ℕ
added_up = sum_standings (λ (l : Standing). l.target)

pub total-is : (ls : List Standing) → total_of ls ≡ added_up ls
total-is ls = fold-sum with_target (λ (l : Standing). l.target) (λ a l. refl) ls 0 ∙ zero-add (added_up ls)

pub as-signed : (ls : List Standing) → pos (added_up ls) ≡ sumℤ (map target_of ls)
as-signed [] = refl
as-signed (l ∷ ls) = ap (λ (z : ℤ). pos l.target +ℤ z) (as-signed ls)

-- a target that gets r more
swap : (a b r : ℤ) → (a +ℤ r) +ℤ b ≡ (a +ℤ b) +ℤ r
swap a b r = +ℤ_assoc a r b ∙ ap (λ (z : ℤ). a +ℤ z) (+ℤ_comm r b) ∙ sym (+ℤ_assoc a b r)

moved : (ls : List Standing) (k : ℕ) (r : ℤ) → k < length ls
    → sumℤ (set (map target_of ls) k (pos (get_or ls k pad).target +ℤ r)) ≡ sumℤ (map target_of ls) +ℤ r
moved [] k r h = absurd (not-suc-le-zero h)
moved (l ∷ ls) zero r h = swap (pos l.target) (sumℤ (map target_of ls)) r
moved (l ∷ ls) (suc k) r h =
    ap (λ (z : ℤ). pos l.target +ℤ z) (moved ls k r (le_of_suc-le-suc h))
    ∙ sym (+ℤ_assoc (pos l.target) (sumℤ (map target_of ls)) r)

pub adds-up : (d : ℕ) (ls : List Standing) → 0 < length ls → sumℤ (adjusted d ls) ≡ pos d
unfolding adjusted
adds-up d ls h =
    let t = pos (total_of ls) in
    let r = pos d -ℤ t in
    moved ls (taker_of ls) r (taker-here ls h)
    ∙ ap (λ (z : ℤ). z +ℤ r) (sym (ap pos (total-is ls) ∙ as-signed ls))
    ∙ +ℤ_comm t r
    ∙ +ℤ_assoc (pos d) (neg_ℤ t) t
    ∙ ap (λ (z : ℤ). pos d +ℤ z) (+ℤ_invl t)
    ∙ +ℤ_idr (pos d)
