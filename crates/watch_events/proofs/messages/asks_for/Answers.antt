use Rattle.std.proofs.Common.{ℕ, ◌==◌, ap}
use Rattle.std.proofs.lemmas.Nat.Bits.{shr_and_one}
use Rattle.watch_events.proofs.messages.asks_for.Goals as goal

pub returns : goal.returns
returns c = ap (λ (bit : ℕ). bit == 1) (shr_and_one c.args.mask c.args.event)
