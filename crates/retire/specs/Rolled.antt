-- What a column becomes when its first entries go: the rest to the front, then the new entries. One definition for every column. Assumes nothing.
use Rattle.std.specs.Prelude.{cond, List, ℕ, ◌+◌, ◌-◌, ltb, get_or}
use Rattle.paper.specs.Count.{over}

-- entry k of a lent column
abbrev pub entry : List ℕ → ℕ → ℕ
entry l k = get_or l k 0

-- entry k after the first `gone` went and `kept` are left: one of those left, or else a new one, counted from the first new one on
unfoldable pub rolled : ℕ → ℕ → (ℕ → ℕ) → (ℕ → ℕ) → ℕ → ℕ
rolled gone kept old new k = cond (ltb k kept) (old (gone + k)) (new (k - kept))

-- the column with that in its first `count` entries; what lies past them stays
unfoldable pub rolled_column : ℕ → ℕ → ℕ → (ℕ → ℕ) → List ℕ → List ℕ
rolled_column gone kept count new l = over (rolled gone kept (entry l) new) count l

-- unit starts: those left count from the first slot that is left, as `gone` slots went with the first units; new ones come behind all `kept`
unfoldable pub begin_then : ℕ → ℕ → ℕ → ℕ → List ℕ → List ℕ → ℕ → ℕ
begin_then gone_units kept_units gone kept begins fresh =
    rolled gone_units kept_units (λ u. entry begins u - gone) (λ u. kept + entry fresh u)
