-- What a play over a lent list of draws is passed: its types lie in the machine in one way only. Assumes `Logic`.
use seplogic.Ra.Ura.{Ura}
use mir.Syntax.{named, w64}
use types.Logic.{Logic}
use contract.Lifetimes.{Lfts}
use denote.Builtin.{u16, u32, u64, u8}
use denote.Signature.{types_at}
use Rattle.walks.proofs.Entries.{Knowns, number, lent, lent_mut, ◌&◌}
use Rattle.rota.specs.contracts.draws.Draw as draw
use Rattle.rota.specs.contracts.draws.play as play

module _ {M : Type 1} {𝓤 : Ura M} (𝓛 : Logic 𝓤) where
  abbrev pub known : (κs : Lfts 11) → Knowns 𝓛 (types_at (play.signature).params κs)
  known κs =
      number 𝓛 w64 & number 𝓛 w64 & number 𝓛 w64 & number 𝓛 w64 & lent 𝓛 (named 0) κs.0 u32
      & lent 𝓛 (named 1) κs.1.0 u32 & lent 𝓛 (named 2) κs.1.1.0 u64 & lent 𝓛 (named 3) κs.1.1.1.0 u16
      & lent 𝓛 (named 4) κs.1.1.1.1.0 u64 & lent 𝓛 (named 5) κs.1.1.1.1.1.0 draw.the_row
      & lent_mut 𝓛 (named 6) κs.1.1.1.1.1.1.0 u8 & lent_mut 𝓛 (named 7) κs.1.1.1.1.1.1.1.0 u64
      & lent_mut 𝓛 (named 8) κs.1.1.1.1.1.1.1.1.0 u64
      & lent_mut 𝓛 (named 9) κs.1.1.1.1.1.1.1.1.1.0 u64
      & lent_mut 𝓛 (named 10) κs.1.1.1.1.1.1.1.1.1.1.0 u8 & tt
