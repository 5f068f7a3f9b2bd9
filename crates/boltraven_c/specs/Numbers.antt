-- An answer as one number: what was asked is below 65,536; 65,536 is nothing; 65,536 + n is the refusal n. Assumes nothing.
use Rattle.std.specs.Prelude.{ℕ, ◌+◌, ◌*◌, ◌%◌, Result, Ok, Err, true, false, Bool, Option, Some, None}
use Rattle.paper.specs.declared.Refusal.{Refusal}
use Rattle.slotset.specs.declared.Run.{Run}
use Rattle.slotset.specs.declared.Run.TheVariants as run
use Rattle.slotset.specs.declared.NextRun.{NextRun}
use Rattle.slotset.specs.declared.NextMember.{NextMember}

-- the version 0.4.0: ten thousand times 0, a hundred times 4, and 0
abbrev pub version_number : ℕ
version_number = 400

-- a refusal that may name a place: the number in bits 0 to 7, the part in bits 8 to 15, the place in bits 16 to 31, the second place in
-- bits 32 to 47; 0 where nothing is refused
unfoldable pub refusal_number : Refusal → ℕ
refusal_number f =
    f.number + 256 * f.part + 65536 * (f.place % 65536) + 4294967296 * (f.second % 65536)

-- a slot: its index
abbrev pub found_number : Result (Option ℕ) ℕ → ℕ
found_number (Ok (Some i)) = i
found_number (Ok None) = 65536
found_number (Err n) = 65536 + n

-- yes is 1, no is 0
abbrev pub yes_no_number : Result Bool ℕ → ℕ
yes_no_number (Ok true) = 1
yes_no_number (Ok false) = 0
yes_no_number (Err n) = 65536 + n

-- a count or an index: itself
abbrev pub plain_number : Result ℕ ℕ → ℕ
plain_number (Ok k) = k
plain_number (Err n) = 65536 + n

-- covered days may be larger: they are written beside the number of the refusal (`answer_refusal`); refused, what was lent for them stays
abbrev pub number_is : ℕ → Result ℕ ℕ → ℕ
number_is was (Ok k) = k
number_is was (Err n) = was

-- minutes may be larger too, and are written in the same way, beside `answer_refusal`
abbrev pub minutes_written : ℕ → Result ℕ ℕ → ℕ
minutes_written was (Ok m) = m
minutes_written was (Err n) = was

-- a run is 0 and a hole is 1, the ends beside it; otherwise those stay as they were lent
abbrev pub run_number : Result Run ℕ → ℕ
run_number (Ok (run.Span first last)) = 0
run_number (Ok (run.Hole first last)) = 1
run_number (Ok run.Outside) = 65536
run_number (Err n) = 65536 + n

abbrev pub run_first : ℕ → Result Run ℕ → ℕ
run_first was (Ok (run.Span first last)) = first
run_first was (Ok (run.Hole first last)) = first
run_first was (Ok run.Outside) = was
run_first was (Err n) = was

abbrev pub run_last : ℕ → Result Run ℕ → ℕ
run_last was (Ok (run.Span first last)) = last
run_last was (Ok (run.Hole first last)) = last
run_last was (Ok run.Outside) = was
run_last was (Err n) = was

-- the next run: 0, its ends and the cursor beside it
abbrev pub next_run_number : Result (Option NextRun) ℕ → ℕ
next_run_number (Ok (Some r)) = 0
next_run_number (Ok None) = 65536
next_run_number (Err n) = 65536 + n

abbrev pub next_run_first : ℕ → Result (Option NextRun) ℕ → ℕ
next_run_first was (Ok (Some r)) = r.first
next_run_first was (Ok None) = was
next_run_first was (Err n) = was

abbrev pub next_run_last : ℕ → Result (Option NextRun) ℕ → ℕ
next_run_last was (Ok (Some r)) = r.last
next_run_last was (Ok None) = was
next_run_last was (Err n) = was

abbrev pub next_run_cursor : ℕ → Result (Option NextRun) ℕ → ℕ
next_run_cursor was (Ok (Some r)) = r.next.at
next_run_cursor was (Ok None) = was
next_run_cursor was (Err n) = was

-- the next member: 0, its index and the cursor beside it
abbrev pub member_number : Result (Option NextMember) ℕ → ℕ
member_number (Ok (Some m)) = 0
member_number (Ok None) = 65536
member_number (Err n) = 65536 + n

abbrev pub member_at : ℕ → Result (Option NextMember) ℕ → ℕ
member_at was (Ok (Some m)) = m.at
member_at was (Ok None) = was
member_at was (Err n) = was

abbrev pub member_cursor : ℕ → Result (Option NextMember) ℕ → ℕ
member_cursor was (Ok (Some m)) = m.next.at
member_cursor was (Ok None) = was
member_cursor was (Err n) = was
