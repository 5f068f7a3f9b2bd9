-- `boltraven_c::set_c::boltraven_set_next_member` meets its contract. Assumes nothing.
use Rattle.std.specs.Prelude.{ℕ, Option, Result, Ok}
use mathlib.Core.Path.{sym, ap, ◌∙◌}
use Rattle.slotset.specs.declared.NextMember.{NextMember}
use Rattle.boltraven_c.specs.Numbers.{member_number, member_at, member_cursor}
use Rattle.boltraven_c.proofs.set_c.boltraven_set_next_member.Goals as goal

pub returns-in-Ok-Some : goal.returns-in-Ok-Some
returns-in-Ok-Some c =
    let e = sym c.next_member.ensures ∙ c.in-Ok-Some.is ∙ ap {B = Result (Option NextMember) ℕ} Ok c.in-Ok-Some.field-0-is in
    record { value = sym (ap member_number e); at_after = sym (ap (member_at _) e); next_after = sym (ap (member_cursor _) e) }

pub returns-in-Ok-None : goal.returns-in-Ok-None
returns-in-Ok-None c =
    let e = sym c.next_member.ensures ∙ c.in-Ok-None.is ∙ ap {B = Result (Option NextMember) ℕ} Ok c.in-Ok-None.field-0-is in
    record { value = sym (ap member_number e); at_after = sym (ap (member_at _) e); next_after = sym (ap (member_cursor _) e) }

pub returns-in-Err : goal.returns-in-Err
returns-in-Err c =
    let e = sym c.next_member.ensures ∙ c.in-Err.is in
    record {
      value = c.refused.ensures ∙ sym (ap member_number e);
      at_after = sym (ap (member_at _) e);
      next_after = sym (ap (member_cursor _) e);
    }
