-- Settings as a record: what one holds, and what is written. Assumes nothing.
use Rattle.std.specs.Prelude.{Bool, ◌&&◌, cond, List, ◌∷◌, ◌++◌, ℕ, ◌-◌, leb, ltb, eqb, get_or}
use Rattle.records.specs.Fields.{le, le_bytes}
use Rattle.records.specs.Records.{Rec}
use Rattle.records.specs.Heads.{found_at, place_of}
use Rattle.units.specs.declared.Settings.{Settings}
use Rattle.store.specs.declared.Kept.{Kept}
use Rattle.store.specs.declared.Kept.TheVariants as kept
use Rattle.store.specs.Layout.{old_kind, edition_kind, count_in}

-- the six figures of a body; an old one is of edition 1, which is 0 here
unfoldable pub figures_of : Rec → Settings
figures_of r = record {
  fairness = get_or r.body 0 0;
  lock = get_or r.body 1 0;
  boundary = get_or r.body 2 0;
  edition = cond (eqb r.kind old_kind) 0 (get_or r.body 3 0);
  value = le 2 r.body 4;
  days = le 2 r.body 6;
}

-- what a record holds
unfoldable pub kept_of : Rec → Kept
kept_of r = cond (ltb edition_kind r.kind) kept.Newer (kept.Figures (figures_of r))

-- number n stands for a record of the used bytes s, the first being 1
unfoldable pub number_known : List ℕ → ℕ → Bool
number_known s n = leb 1 n && leb n (count_in s)

-- what it stands for
unfoldable pub kept_in : List ℕ → ℕ → Kept
kept_in s n = cond (number_known s n) (kept_of (found_at s (place_of s (n - 1)))) kept.Unknown

-- settings as they are saved: a record of kind 33
unfoldable pub body_of : Settings → List ℕ
body_of s = s.fairness ∷ s.lock ∷ s.boundary ∷ s.edition ∷ (le_bytes 2 s.value ++ le_bytes 2 s.days)

abbrev pub settings_record : Settings → Rec
settings_record s = record { kind = edition_kind; body = body_of s }
