-- `store::walk::used_part` meets its contract. Assumes nothing.
use mathlib.Core.Path.{◌≡◌, sym, ap, ◌∙◌}
use mathlib.Core.Logic.{⊎_elim}
use Prim.Native.Nat.{ℕ, ◌≤◌, ◌<◌}
use native.Mathlib.Omega.{arith}
use lib.ListN.{length, take}
use lib.Seq.{take_all}
use Rattle.paper.proofs.Logic.{lt-or-ge}
use Rattle.store.proofs.walk.used_part.Goals as goal

pub returns : goal.returns
returns c =
    let area = c.args.area.now in
    ⊎_elim
    (λ (h : length area < c.args.used).
    let e : c.min.result ≡ length area = omega arith in
    rw e (take_all (length area) area (omega arith) ∙ sym (take_all c.args.used area (omega arith))))
    (λ (h : c.args.used ≤ length area). let e : c.min.result ≡ c.args.used = omega arith in ap (λ (n : ℕ). take n area) e)
    (lt-or-ge (length area) c.args.used)
