-- The job: demand 1 of run_job, whose number 13 comes before all, and what its file and its listing mean. Assumes nothing.
use Rattle.std.specs.Prelude.{◌≡◌, true, List, [], ◌↔◌, ◌≢◌, ℕ, suc, ◌+◌, ◌-◌, ◌^◌, ◌≤◌, ◌<◌, ℤ, pos, nat_abs, length, get_or, take, drop, Ok, Err}
use Rattle.paper.specs.declared.Refusal.{Refusal}
use Rattle.paper.specs.Limits.{nobody}
use Rattle.paper.specs.Count.{sum}
use Rattle.targets.specs.Remainder.{sumℤ}
use Rattle.owners.specs.Derived.{known_by}
use Rattle.owners.specs.Recount.{available_for}
use Rattle.records.specs.Fields.{le, Bytes}
use Rattle.records.specs.Records.{bodies}
use Rattle.job.specs.File.{job_sizes, owner_slot, file_ok, JobFile}
use Rattle.job.specs.Listing.{digits, signed, listing_of, listing_most}
use Rattle.job.specs.Digits.{read_digits, read_signed}
use Rattle.job.specs.Stages.{counted, column_of, settings_in, instant_of, base_total, ready_of, owner_value, placed, owners_of, listed_of}
use Rattle.job.specs.Stages.{uneven_of}
use Rattle.job.specs.Outcome.{Lowest, AllPass, job_tests, refusal_at, job_result}

-- an accepted job, with n bytes of listing
pub record Accepted (s x : List ℕ) (n : ℕ) : Type 0 where
  -- the listing stands at the front of the lent buffer, and past it the buffer stays
  pub listing : (take n (job_result s x).out ≡ listing_of (listed_of s)) × (drop n (job_result s x).out ≡ drop n x)
  -- it is no longer than the room that 2 asks for
  pub fits : n ≤ listing_most
  -- demand 3's total: P minutes and U add up to the total of the file's base slots, and so do the targets
  pub total : sum (listed_of s).people (λ p. get_or (listed_of s).minutes p 0) + (listed_of s).uncovered ≡ base_total s
  pub targets : sumℤ (take (listed_of s).people (listed_of s).targets) ≡ pos (base_total s)
  -- demand 3 of the owners listed, beside those of the file's records: a slot that ends by the freeze record's instant keeps its owner, no
  -- covered slot becomes uncovered, every owner is nobody or known and available
  pub frozen : (counted s 4 ≡ 0 → ⊥) → (k : ℕ) → k < (listed_of s).slots
      → get_or (listed_of s).ends k 0 ≤ instant_of s → get_or (listed_of s).owners k 0 ≡ get_or (owners_of s) k 0
  pub covered : (k : ℕ) → k < (listed_of s).slots → (get_or (owners_of s) k 0 ≡ nobody → ⊥) → get_or (listed_of s).owners k 0 ≡ nobody → ⊥
  pub owners : (k : ℕ) → k < (listed_of s).slots
      → (known_by (listed_of s).people (get_or (listed_of s).owners k 0) ≡ true)
      × (available_for (ready_of s).avail (get_or (listed_of s).owners k 0) k ≡ true)

pub record JobByRule : Type 0 where
  -- "The lowest number wins, but 13 comes before all": a refusal is given exactly where its number is the lowest of those that apply; 10 is
  -- of the lowest unit with two owners, which is part 3, and no other number names a part
  pub given : (s x : List ℕ) (f : Refusal)
      → ((job_result s x).answer ≡ Err f) ↔ (Lowest (job_tests s (length x)) f.number × (f ≡ refusal_at f.number (uneven_of s)))
  -- a listing is given exactly where no number applies
  pub answered : (s x : List ℕ) (n : ℕ)
      → ((job_result s x).answer ≡ Ok n) ↔ (AllPass (job_tests s (length x)) × (n ≡ length (listing_of (listed_of s))))
  -- "A refusal returns its number alone and changes nothing lent."
  pub kept : (s x : List ℕ) (f : Refusal) → (job_result s x).answer ≡ Err f → (job_result s x).out ≡ x
  -- 13, both ways: the file is a right sequence of records, and not too long
  pub file : (s : List ℕ) → Bytes s → (file_ok s ≡ true) ↔ JobFile s
  -- what a job works with stands in that sequence: as many records of each kind, each field in the body of its record, the settings
  pub counts : (s : List ℕ) (J : JobFile s) (i : ℕ) → i < 7 → counted s i ≡ length (bodies (1 + i) J.records)
  pub columns : (s : List ℕ) (J : JobFile s) (i k off n : ℕ) → i < 7 → k < length (bodies (1 + i) J.records)
      → length (bodies (1 + i) J.records) ≤ 1024 → off + n ≤ get_or job_sizes i 0
      → get_or (column_of s i off n) k 0 ≡ le n (get_or (bodies (1 + i) J.records) k []) off
  pub settings : (s : List ℕ) (J : JobFile s)
      → let body = get_or (bodies 1 J.records) 0 [] in
      ((settings_in s).fairness ≡ le 1 body 0) × ((settings_in s).lock ≡ le 1 body 1) × ((settings_in s).boundary ≡ le 1 body 2)
      × ((settings_in s).edition ≡ le 1 body 3) × ((settings_in s).value ≡ le 2 body 4) × ((settings_in s).days ≡ le 2 body 6)
  pub base-total : (s : List ℕ) (J : JobFile s)
      → let base = bodies 2 J.records in base_total s ≡ sum (length base) (λ k. le 4 (get_or base k []) 4 - le 4 (get_or base k []) 0)
  -- "owner: .. slots rising, the rest 255": a slot has the owner of its record, 255 where none names it
  pub owners : (s : List ℕ) (at slots n : ℕ) → slots ≤ 1024 → ((k : ℕ) → suc k < n → owner_slot s at k < owner_slot s at (suc k))
      → ((k : ℕ) → k < n → owner_slot s at k < slots → get_or (placed s at slots n) (owner_slot s at k) 0 ≡ owner_value s at k)
      × ((j : ℕ) → j < slots → ((k : ℕ) → k < n → owner_slot s at k ≢ j) → get_or (placed s at slots n) j 0 ≡ nobody)
  pub accepted : (s x : List ℕ) (n : ℕ) → (job_result s x).answer ≡ Ok n → Accepted s x n
  -- the digits of a number have that number as their value, with a minus sign for one below 0
  pub digits : (n : ℕ) → n < 10 ^ 20 → read_digits (digits n) ≡ n
  pub signed : (z : ℤ) → nat_abs z < 10 ^ 20 → read_signed (signed z) ≡ z
