-- What is worked out from owners: each person's set of slots and minutes, and the totals of what nobody owns. Assumes nothing.
use Rattle.std.specs.Prelude.{ℕ, zero, suc, ◌+◌, ◌-◌, ◌*◌, ◌%◌, ◌^◌, Bool, cond, ◌||◌, List, replicate, ◌==◌, nat_eq, nat_lt, slice_index, slice_set}
use Rattle.paper.specs.Limits.{nobody}
use Rattle.paper.specs.Count.{sum, sum_in, count, over}
use Rattle.slotset.specs.Slots.{put_slots}
use Rattle.slotset.specs.Answers.{row_stretch_of}
use Rattle.slots.specs.Lent.{minutes_at}

-- the people and the lent slots
pub record Plan : Type 0 where
  pub people : ℕ
  pub slots : ℕ
  pub starts : List ℕ
  pub ends : List ℕ

abbrev pub plan : ℕ → ℕ → List ℕ → List ℕ → Plan
plan p n s e = record { people = p; slots = n; starts = s; ends = e }

-- the length of slot k
abbrev pub length_at : Plan → ℕ → ℕ
length_at P = minutes_at P.starts P.ends

-- nobody, or a person who is known
unfoldable pub known_by : ℕ → ℕ → Bool
known_by people w = w == nobody || nat_lt w people

-- ---- minutes

-- what a slot of length n, owned by w, counts for p
unfoldable pub portion : ℕ → ℕ → ℕ → ℕ
portion w p n = cond (w == p) n 0

-- the minutes of the slots that p owns
unfoldable pub worked : Plan → List ℕ → ℕ → ℕ
worked P o p = sum P.slots (λ k. portion (slice_index o k) p (length_at P k))

-- those that nobody owns, and how many they are
unfoldable pub uncovered : Plan → List ℕ → ℕ
uncovered P o = worked P o nobody

unfoldable pub unassigned : ℕ → List ℕ → ℕ
unassigned slots o = count slots (λ k. nat_eq (slice_index o k) nobody)

-- ---- sets

-- slot k in the set of person p: 1 where p owns it
unfoldable pub held : List ℕ → ℕ → ℕ → ℕ
held o p k = cond (slice_index o k == p) 1 0

-- the sets of the first n people, 16 words each; bits at or past the slot count stay
unfoldable pub sets_from : ℕ → ℕ → List ℕ → List ℕ → List ℕ
sets_from zero slots o ws = ws
sets_from (suc p) slots o ws = put_slots (held o p) (16 * p) 0 slots (sets_from p slots o ws)

-- owners that are all nobody
unfoldable pub nobodies : ℕ → List ℕ
nobodies n = replicate n nobody

-- ---- totals

-- total 0: the uncovered minutes; total 1: how many slots nobody owns
unfoldable pub total_of : Plan → List ℕ → ℕ → ℕ
total_of P o zero = uncovered P o
total_of P o (suc i) = unassigned P.slots o

-- ---- all of it, as one record

pub record Derived : Type 0 where
  pub sets : List ℕ
  pub minutes : List ℕ
  pub totals : List ℕ

abbrev pub derived : List ℕ → List ℕ → List ℕ → Derived
derived s m t = record { sets = s; minutes = m; totals = t }

-- worked out afresh: what lies past the last person, past the slot count, or past the second total stays
unfoldable pub afresh : Plan → List ℕ → Derived → Derived
afresh P o D =
    derived (sets_from P.people P.slots o D.sets) (over (worked P o) P.people D.minutes) (over (total_of P o) 2 D.totals)

-- ---- a stretch of slots changes hands, whatever is lent: numbers of 64 bits wrap, a row that isn't there stays as it is

-- the sets with slots a up to e of w's row at v; nobody has no set
unfoldable pub set_for : ℕ → ℕ → ℕ → ℕ → ℕ → ℕ → List ℕ → List ℕ
set_for v people slots w a e ws = cond (w == nobody) ws (row_stretch_of v ws people w slots a e)

abbrev pub wrapped : ℕ → ℕ
wrapped n = n % 2 ^ 64

-- the minutes with n less, or more, for w; nobody has none
unfoldable pub less_at : ℕ → ℕ → List ℕ → List ℕ
less_at w n m = cond (w == nobody) m (slice_set m w (slice_index m w - n))

unfoldable pub more_at : ℕ → ℕ → List ℕ → List ℕ
more_at w n m = cond (w == nobody) m (slice_set m w (wrapped (slice_index m w + n)))

-- the totals with n minutes and k slots less, or more, where w is nobody
unfoldable pub less_totals : ℕ → ℕ → ℕ → List ℕ → List ℕ
less_totals w n k t = cond (w == nobody) (slice_set (slice_set t 0 (slice_index t 0 - n)) 1 (slice_index t 1 - k)) t

unfoldable pub more_totals : ℕ → ℕ → ℕ → List ℕ → List ℕ
more_totals w n k t = cond (w == nobody) (slice_set (slice_set t 0 (wrapped (slice_index t 0 + n))) 1 (wrapped (slice_index t 1 + k))) t

-- the minutes of slots a up to e
unfoldable pub stretch_minutes : List ℕ → List ℕ → ℕ → ℕ → ℕ
stretch_minutes starts ends a e = sum_in a e (minutes_at starts ends)

-- what is derived, when slots a up to e, of n minutes, are taken from w, and when they are given to w
unfoldable pub taken : ℕ → ℕ → ℕ → ℕ → ℕ → ℕ → Derived → Derived
taken people slots a e n w D =
    derived (set_for 0 people slots w a e D.sets) (less_at w n D.minutes) (less_totals w n (e - a) D.totals)

unfoldable pub given : ℕ → ℕ → ℕ → ℕ → ℕ → ℕ → Derived → Derived
given people slots a e n w D =
    derived (set_for 1 people slots w a e D.sets) (more_at w n D.minutes) (more_totals w n (e - a) D.totals)

-- and when they go from old to w
unfoldable pub carried : Plan → ℕ → ℕ → ℕ → ℕ → Derived → Derived
carried P a e old w D =
    let n = wrapped (stretch_minutes P.starts P.ends a e) in
    given P.people P.slots a e n w (taken P.people P.slots a e n old D)
