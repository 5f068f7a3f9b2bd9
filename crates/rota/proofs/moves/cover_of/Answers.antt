-- `rota::moves::cover_of` meets its contract. Assumes nothing.
use mathlib.Core.Path.{◌≡◌, refl, sym}
use native.Mathlib.Omega.{arith}
use Rattle.rota.proofs.Judged.{cover-start, cover-more}
use Rattle.rota.proofs.moves.cover_of.Goals as goal

pub loop-u-init : goal.loop-u-init
loop-u-init c = cover-start _ _

pub loop-u-preserved : goal.loop-u-preserved
loop-u-preserved c = cover-more _ _ _ _ _ c.loop-u.auto.u refl c.loop-u.invariant

pub returns : goal.returns
returns c =
    let q : c.loop-u.u ≡ c.args.e = omega arith in
    rw (sym q) c.loop-u.invariant
