-- The job of a recording: its tests, and what a play goes by where none fails. Assumes nothing.
use Rattle.std.specs.Prelude.{◌≡◌, Bool, true, ◌&&◌, List, ◌++◌, ℕ, ◌*◌, eqb, leb, pos, length, drop, replicate}
use Rattle.paper.specs.declared.Refusal.{Refusal}
use Rattle.paper.specs.Limits.{Test, slots_most, people_most, set_words}
use Rattle.paper.specs.Rows.{unless, accepted, refusal_of}
use Rattle.owners.specs.Derived.{Derived, derived}
use Rattle.job.specs.declared.Begun.{Begun}
use Rattle.job.specs.declared.Prepared.{Prepared}
use Rattle.job.specs.File.{file_ok}
use Rattle.job.specs.Stages.{counted, people_of, Ready, ready, ready_of, owners_of, started_of}
use Rattle.job.specs.Outcome.{read_row, prepare_row}
use Rattle.job.specs.Inside.{ready_by}

-- 13: the layout of a job's file, and no draw in it
unfoldable pub recorded_ok : List ℕ → Bool
recorded_ok s = file_ok s && eqb (counted s 6) 0

-- then as for a job's file; 2: there is room for what it comes to
unfoldable pub begun_tests : List ℕ → Bool → List Test
begun_tests s room = read_row (recorded_ok s) (counted s 1) (people_of s) (counted s 3) (counted s 6) room ++ prepare_row s

-- those of a recording that is shown, which asks for no room
abbrev pub recorded_tests : List ℕ → List Test
recorded_tests s = begun_tests s true

-- what a play goes by, and sets, minutes and totals, as they are handed over
abbrev pub ready_from : Begun → Ready
ready_from r =
    ready r.people r.slots r.starts r.ends r.avail r.units r.begins r.frozen r.targets

abbrev pub derived_from : Begun → Derived
derived_from r = derived r.sets r.minutes r.totals

-- nothing: what is handed over beside a refusal
abbrev pub no_ready : Ready
no_ready =
    ready 0 0 (replicate 1024 0) (replicate 1024 0) (replicate 512 0) 0 (replicate 1024 0) (replicate 16 0) (replicate 32 (pos 0))

abbrev pub no_derived : Derived
no_derived = derived (replicate 512 0) (replicate 32 0) (replicate 2 0)

pub record Blank (f : Refusal) (r : Begun) : Type 0 where
  pub refusal : r.refusal ≡ f
  pub ready : ready_from r ≡ no_ready
  pub owners : r.owners ≡ replicate 1024 0
  pub derived : derived_from r ≡ no_derived
  pub targets-room : length r.targets ≡ 32

-- all that was prepared
pub record Copied (p : Prepared) (r : Begun) : Type 0 where
  pub refusal : r.refusal ≡ accepted
  pub ready : ready_from r ≡ ready_by p
  pub owners : r.owners ≡ p.owners
  pub derived : derived_from r ≡ derived p.sets p.minutes p.totals
  pub targets : r.targets ≡ p.targets

-- the refusal of the file s; what a play goes by, the owners, and sets, minutes and totals, where there is none
pub record BegunIn (s : List ℕ) (room : Bool) (r : Begun) : Type 0 where
  pub refusal : r.refusal ≡ refusal_of (begun_tests s room)
  pub ready : ready_from r ≡ unless r.refusal.number no_ready (ready_of s)
  pub owners : r.owners ≡ unless r.refusal.number (replicate 1024 0) (owners_of s)
  pub derived : derived_from r ≡ unless r.refusal.number no_derived (started_of s).derived
  pub targets-room : length r.targets ≡ 32

abbrev pub BegunAs : List ℕ → Begun → Type 0
BegunAs s r = BegunIn s true r

-- ---- the same, in lent columns

-- 2: each lent column has room for the most that any job comes to
unfoldable pub ready_room : Ready → Bool
ready_room L =
    leb slots_most (length L.starts) && (leb slots_most (length L.ends) && (leb (set_words * people_most) (length L.avail)
    && (leb slots_most (length L.begins) && (leb set_words (length L.frozen) && leb people_most (length L.targets)))))

unfoldable pub rota_room : List ℕ → Derived → Bool
rota_room o D =
    leb slots_most (length o) && (leb (set_words * people_most) (length D.sets) && (leb people_most (length D.minutes)
    && leb 2 (length D.totals)))

-- a list from the front of a lent one; what lies past its end stays
unfoldable pub laid : {A : Type 0} → List A → List A → List A
laid l lent = l ++ drop (length l) lent

-- the three counts, and each column from its front
unfoldable pub ready_laid : Ready → Ready → Ready
ready_laid R L =
    ready R.people R.slots (laid R.starts L.starts) (laid R.ends L.ends) (laid R.avail L.avail) R.units
    (laid R.begins L.begins) (laid R.frozen L.frozen) (laid R.targets L.targets)

unfoldable pub derived_laid : Derived → Derived → Derived
derived_laid E D = derived (laid E.sets D.sets) (laid E.minutes D.minutes) (laid E.totals D.totals)

-- what is lent: what a play goes by, the owners, and sets, minutes and totals
pub record Lent : Type 0 where
  pub ready : Ready
  pub owners : List ℕ
  pub derived : Derived

abbrev pub lent : Ready → List ℕ → Derived → Lent
lent R o D = record { ready = R; owners = o; derived = D }

pub record Beginning : Type 0 where
  pub refusal : Refusal
  pub left : Lent

-- the refusal, and what is lent: as it was where there is one, else with what was prepared from the front
unfoldable pub beginning : List ℕ → Lent → Beginning
beginning s L =
    let f = refusal_of (begun_tests s (ready_room L.ready && rota_room L.owners L.derived)) in
    record {
      refusal = f;
      left = unless f.number L (lent (ready_laid (ready_of s) L.ready) (laid (owners_of s) L.owners)
          (derived_laid (started_of s).derived L.derived));
    }

pub record Begins (y : Beginning) (f : Refusal) (L : Lent) : Type 0 where
  pub said : f ≡ y.refusal
  pub left : L ≡ y.left
