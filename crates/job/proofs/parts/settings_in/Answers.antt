-- `job::parts::settings_in` meets its contract. Assumes nothing.
use mathlib.Core.Path.{ap₂}
use Prim.Native.Nat.{ℕ}
use lib.ListN.{get_or}
use Rattle.units.specs.declared.Settings.{Settings}
use Rattle.job.specs.Stages.{settings_in}
use Rattle.job.proofs.parts.settings_in.Goals as goal

pub returns : goal.returns
unfolding settings_in
returns c =
    let s = c.args.s.now in
    ap₂ {A = ℕ} {B = ℕ} {C = Settings} (λ (v d : ℕ). record {
      fairness = get_or s 4 0;
      lock = get_or s 5 0;
      boundary = get_or s 6 0;
      edition = get_or s 7 0;
      value = v;
      days = d;
    })
    c.field-value.ensures.0 c.field-days.ensures.0
