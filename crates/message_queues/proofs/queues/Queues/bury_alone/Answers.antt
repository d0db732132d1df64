use Rattle.std.proofs.Common.{◌≡◌, ◌∙◌, ◌++◌, [], ◌∷◌, List, ℕ, ap, arith, length, refl, sym}
use Rattle.std.specs.Prelude.{flat_map}
use Rattle.vfs_journal.specs.Entries.{Sent, tokens_in}
use Rattle.message_queues.specs.Queues.{Queues, count, queue_of}
use Rattle.message_queues.proofs.Sound.{nothing_counted}
use Rattle.message_queues.proofs.Spread.{adds_one, idle_deaths}
use Rattle.message_queues.proofs.queues.Queues.bury_alone.Goals as goal

idle : (c : goal.After-close) → c.self.inside.count ≡ 0 → (endpoint : ℕ) → queue_of c.args.self.now endpoint ≡ []
idle c none endpoint =
    ap (λ (queues : Queues). queue_of queues endpoint) (sym c.self.view_is)
    ∙ nothing_counted c.self.inside.boxes c.self.inside.heads.items c.self.inside.count c.self.inside.servers c.self.invariant none endpoint

pub returns-clause-alone : goal.returns-clause-alone
returns-clause-alone c = (λ yes. ap (λ (queues : Queues). count queues) (sym c.self.view_is) ∙ sym c.self.invariant.kept.counts ∙ omega arith, λ waits. refl)

pub returns-clause-died : goal.returns-clause-died
returns-clause-died c = λ yes.
    idle_deaths c.args.self.now (c.args.endpoint ∷ []) (c.args.endpoint ∷ []) (idle c (omega arith)) (adds_one [] (c.args.endpoint ∷ []) c.args.endpoint refl) (λ one other default before last same. absurd (omega arith))

pub returns-clause-tokens : goal.returns-clause-tokens
returns-clause-tokens c = λ yes. ap (λ (queue : List Sent). flat_map tokens_in queue ++ []) (idle c (omega arith) c.args.endpoint)

pub returns-clause-count : goal.returns-clause-count
returns-clause-count c = λ yes. let empty = ap (λ (queue : List Sent). length queue) (idle c (omega arith) c.args.endpoint) in omega (arith, c.close.ensures.len, empty)
