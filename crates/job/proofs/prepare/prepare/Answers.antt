-- `job::prepare::prepare` meets its contract. Assumes nothing.
use borrow.Author.Rules.{rules}
use Rattle.std.specs.Prelude.{Err}
use mathlib.Core.Path.{◌≡◌, sym}
use Rattle.job.proofs.Readings.{read-settings, read-owners, slots-refuse, targets-refuse, units-refuse, owners-refuse, rota-refuse, prepared-are}
use Rattle.job.proofs.prepare.prepare.Goals as goal

pub slots_in-requires : goal.slots_in-requires
slots_in-requires c = c.requires

pub returns-in_err-s : goal.returns-in_err-s
returns-in_err-s c =
    let q : c.from_residual.result ≡ Err c.in_err-s.field-0.0 = search rules in
    rw q (slots-refuse c.requires _ (rw c.in_err-s.was at c.slots_in.ensures))

pub targets_in-requires : goal.targets_in-requires
targets_in-requires c = c.requires

pub returns-in_err-targets : goal.returns-in_err-targets
returns-in_err-targets c =
    let q : c.from_residual-in_err-targets.result ≡ Err c.in_err-targets.field-0.0 = search rules in
    rw q (targets-refuse c.requires _ (rw c.in_ok-s.was at c.slots_in.ensures) _ (rw c.in_err-targets.was at c.targets_in.ensures))

pub settings_in-settings-requires : goal.settings_in-settings-requires
settings_in-settings-requires c =
    read-settings c.requires

pub returns-in_err-u : goal.returns-in_err-u
returns-in_err-u c =
    let q : c.from_residual-in_err-u.result ≡ Err c.in_err-u.field-0.0 = search rules in
    rw q (units-refuse c.requires _ (rw c.in_ok-s.was at c.slots_in.ensures) _ (rw c.in_ok-targets.was at c.targets_in.ensures) _ c.settings_in-settings.ensures _ (rw c.in_err-u.was at c.units_of.ensures))

pub owners_of-requires : goal.owners_of-requires
owners_of-requires c = (
  read-owners c.requires,
  let s = rw c.in_ok-s.was at c.slots_in.ensures in s.few,
)

pub returns-in_err-owners : goal.returns-in_err-owners
returns-in_err-owners c =
    let q : c.from_residual-in_err-owners.result ≡ Err c.in_err-owners.field-0.0 = search rules in
    rw q (owners-refuse c.requires _ (rw c.in_ok-s.was at c.slots_in.ensures) _ (rw c.in_ok-targets.was at c.targets_in.ensures) _ c.settings_in-settings.ensures _ (rw c.in_ok-u.was at c.units_of.ensures) _ (rw c.in_err-owners.was at c.owners_of.ensures))

pub returns-in_err-r : goal.returns-in_err-r
returns-in_err-r c =
    let q : c.from_residual-in_err-r.result ≡ Err c.in_err-r.field-0.0 = search rules in
    rw q (rota-refuse c.requires _ (rw c.in_ok-s.was at c.slots_in.ensures) _ (rw c.in_ok-targets.was at c.targets_in.ensures) _ c.settings_in-settings.ensures _ (rw c.in_ok-u.was at c.units_of.ensures) _ (rw c.in_ok-owners.was at c.owners_of.ensures) _ (rw c.in_err-r.was at c.start_rota.ensures))

pub slice_bounds-start_rota-end : goal.slice_bounds-start_rota-end
slice_bounds-start_rota-end c =
    let s = rw c.in_ok-s.was at c.slots_in.ensures in
    sym s.starts-room

pub slice_bounds-start_rota-end-2 : goal.slice_bounds-start_rota-end-2
slice_bounds-start_rota-end-2 c =
    let s = rw c.in_ok-s.was at c.slots_in.ensures in
    sym s.ends-room

pub slice_bounds-start_rota-end-3 : goal.slice_bounds-start_rota-end-3
slice_bounds-start_rota-end-3 c =
    let s = rw c.in_ok-s.was at c.slots_in.ensures in
    sym s.avail-room

pub slice_bounds-frozen_of-end : goal.slice_bounds-frozen_of-end
slice_bounds-frozen_of-end c =
    let s = rw c.in_ok-s.was at c.slots_in.ensures in
    sym s.starts-room

pub slice_bounds-frozen_of-end-2 : goal.slice_bounds-frozen_of-end-2
slice_bounds-frozen_of-end-2 c =
    let s = rw c.in_ok-s.was at c.slots_in.ensures in
    sym s.ends-room

pub frozen_of-frozen-requires : goal.frozen_of-frozen-requires
frozen_of-frozen-requires c =
    c.requires

pub returns : goal.returns
returns c =
    prepared-are c.requires _ (rw c.in_ok-s.was at c.slots_in.ensures) _ (rw c.in_ok-targets.was at c.targets_in.ensures)
    _ c.settings_in-settings.ensures _ (rw c.in_ok-u.was at c.units_of.ensures) _ (rw c.in_ok-owners.was at c.owners_of.ensures)
    _ (rw c.in_ok-r.was at c.start_rota.ensures) _ c.frozen_of-frozen.ensures
