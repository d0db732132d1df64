use Rattle.std.proofs.Common.{◌≡◌, ◌++◌, ◌∙◌, ℕ, List, [], OnOk, append-nil, subst, sym, true}
use Rattle.link_frames.specs.Frames.{spelling, spellings}
use Rattle.watch_events.specs.Events.{event_bytes}
use Rattle.watch_events.specs.Messages.{asks_for, idle, watch_frame}
use Rattle.watch_events.specs.Steps.{idle_told}
use Rattle.watch_events.proofs.messages.tell_idle.Goals as goal

-- where it is asked for, one message tells it
one_message : (endpoint mask : ℕ) → asks_for mask idle ≡ true → spelling (watch_frame endpoint (event_bytes idle [])) ≡ spellings (idle_told endpoint mask)
one_message endpoint mask asks = rw asks (sym (append-nil (spelling (watch_frame endpoint (event_bytes idle [])))))

pub returns : goal.returns
returns c = record {
  told =
      subst (λ (bytes : List ℕ). OnOk c.write_message.result (c.write_message.new.to ≡ c.args.to.now ++ bytes))
      (one_message c.args.endpoint c.args.mask (sym c.asks_for.ensures ∙ c.if-not-asks_for.false)) c.write_message.ensures.written;
  no_memory = c.write_message.ensures.no_memory;
}
