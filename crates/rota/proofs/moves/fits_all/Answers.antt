-- `rota::moves::fits_all` meets its contract. Assumes nothing.
use mathlib.Core.Path.{◌∙◌}
use Prim.Native.Nat.{◌^◌, ◌<◌}
use native.Mathlib.Omega.{arith}
use borrow.Author.Rules.{rules}
use mir.Syntax.{w32}
use mir.Val.{Fits}
use lib.ListN.{get_or}
use Rattle.rota.proofs.Judged.{cover-says}
use Rattle.rota.proofs.moves.fits_all.Goals as goal

pub returns : goal.returns
returns c =
    let at-args = c.args in
    let at_pre = c.requires in
    let at-cover-of = c.cover_of in
    let m : Fits w32 at-cover-of.result = search rules in
    let known = c.shared_slice_known-1.given in
    let f : get_or at-args.fits.now at-args.a 0 < 2 ^ 32 = omega (arith, known at-args.a) in
    c.in_mask.ensures ∙ cover-says _ _ _ _ _ at_pre.0 m.fits f at-cover-of.ensures
