-- What is promised. Entries: a component, by what its entries answer. Marked: the twelve marked cases. Demand 1: Table, Tests, Numbers,
-- Refusals, SetRefusals, Outcomes. Demand 2: SetRules, SlotRules, UnitRules, TargetRules, EditionRules, MoveRules, RotaRules. Demand 3:
-- Rota, ManyCalls, Replay. The job: JobRules, JobFields, JobTests, JobText, JobExample. Places: where the recount failed.
-- Empty: how empty answers are shut out.
pub mod Entries
pub mod Marked
pub mod Table
pub mod Tests
pub mod Numbers
pub mod Refusals
pub mod SetRefusals
pub mod Outcomes
pub mod SetRules
pub mod ReaderRule
pub mod EveryRunRule
pub mod HoleRule
pub mod SlotRules
pub mod SplitRule
pub mod UnitRules
pub mod TargetRules
pub mod EditionRules
pub mod PassesRule
pub mod MoveRules
pub mod PlayRule
pub mod RotaRules
pub mod UsableRule
pub mod Tables
pub mod Rota
pub mod ManyCalls
pub mod ColumnRules
pub mod WayBack
pub mod Replay
pub mod JobRules
pub mod JobFields
pub mod JobTests
pub mod JobText
pub mod Places
pub mod JobExample
pub mod StoreRules
pub mod ListRules
pub mod Accepts
pub mod Exports
pub mod WayBackRule
pub mod ReplayRule
pub mod RecordingRule
pub mod MendRule
pub mod Empty
pub mod RetireRule
