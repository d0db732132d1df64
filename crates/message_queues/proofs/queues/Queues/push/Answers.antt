use Rattle.std.proofs.Common.{◌≡◌, ◌∙◌, ◌<◌, ◌+◌, ◌++◌, ◌∷◌, [], List, eqb, sym, ap, subst, ℕ}
use Rattle.std.specs.HashMap.{UpdatesBy}
use Rattle.std.specs.List.Sorted.{IsPermutation}
use Rattle.std.specs.Prelude.{None, Some}
use Rattle.fidl_names.specs.declared.limits.TheConstants as limit
use Rattle.vfs_journal.specs.Entries.{Sent}
use Rattle.message_queues.specs.Queues.{IsAbove, Mailbox, Queues, Requeues, count, queue_of}
use Rattle.message_queues.specs.Steps.{IsSound, first_pushed, put_turn, queues_with, turn_by}
use Rattle.message_queues.specs.declared.queues.Queues.TheInside.{Inside}
use Rattle.message_queues.proofs.Changed.{Boxes}
use Rattle.message_queues.proofs.Sound.{pushed_there, pushed_new, box_is, known_there, sound_same, view_same, written_back}
use Rattle.message_queues.proofs.queues.Queues.push.Goals as goal
use Rattle.message_queues.proofs.queues.Queues.push.Goals.{in-Some+in_ok-push_into-in-Some, in-None+in_ok-add_box-in-None}

pub push_into-requires : goal.push_into-requires
push_into-requires c =
    known_there c.self.inside.boxes c.self.inside.heads.items c.self.inside.count c.self.inside.servers c.sent.inside.endpoint c.in-Some.mailbox.now c.self.invariant (sym c.in-Some.ensures.value)

-- the entry was pushed, and is counted next
abbrev IsPushed : Queues → ℕ → Sent → Inside → Type 0
IsPushed old endpoint sent inside =
    IsSound inside.boxes.entries inside.heads.items (inside.count + 1) inside.servers
    × Requeues old endpoint (queue_of old endpoint ++ sent ∷ []) (queues_with inside.boxes.entries inside.servers)
    × (count (queues_with inside.boxes.entries inside.servers) ≡ count old + 1)

pushed : (c : goal.After-self-2-1) → IsPushed (queues_with c.self.inside.boxes.entries c.self.inside.servers) c.args.sent.endpoint c.args.sent c.match-get_mut.self-inside
pushed c =
    let old = queues_with c.self.inside.boxes.entries c.self.inside.servers in
    let at = c.sent.inside.endpoint in
    let same : at ≡ c.args.sent.endpoint = ap (λ (sent : Sent). sent.endpoint) c.sent.view_is in
    let above : IsAbove old c.args.sent.place = subst (λ (queues : Queues). IsAbove queues c.args.sent.place) (sym c.self.view_is) c.requires.newest in
    let room : c.self.inside.count < limit.MAX_WAITING =
    subst (λ (n : ℕ). n < limit.MAX_WAITING) (sym (c.self.invariant.kept.counts ∙ ap (λ (queues : Queues). count queues) c.self.view_is)) c.requires.few in
    subst (λ (endpoint : ℕ). IsPushed old endpoint c.args.sent c.match-get_mut.self-inside) same
    (elim c.match-get_mut.branch [
      | in-Some+in_ok-push_into-in-Some w ↦ subst (λ (inside : Inside). IsPushed old at c.args.sent inside) (sym w.self-inside-is)
          (pushed_there c.self.inside.boxes (c.get_mut.follows.lender w.push_into.new.mailbox) c.self.inside.heads.items w.push_into.new.heads.items c.self.inside.count c.self.inside.servers at
          w.in-Some.mailbox.now w.push_into.new.mailbox c.args.sent c.self.invariant (sym w.in-Some.ensures.value) above room w.in_ok-push_into-in-Some.ensures.pushed
          (c.get_mut.follows.holds w.push_into.new.mailbox)
          (w.in_ok-push_into-in-Some.ensures.put ∙ ap (λ (endpoint : ℕ). put_turn c.self.inside.heads.items (turn_by w.in-Some.mailbox.now.server (first_pushed w.in-Some.mailbox.now c.args.sent)) endpoint) (sym same)))
      | in-None+in_ok-add_box-in-None w ↦ subst (λ (inside : Inside). IsPushed old at c.args.sent inside) (sym w.self-inside-is)
          (pushed_new c.self.inside.boxes w.add_box.new.boxes c.self.inside.heads.items c.self.inside.count c.self.inside.servers at w.new-mailbox.result c.args.sent c.self.invariant
          (sym w.in-None.ensures.value) above room (box_is w.new-mailbox.result None (c.args.sent ∷ []) w.new-mailbox.ensures.server w.new-mailbox.ensures.queue)
          (subst (λ (boxes : Boxes). UpdatesBy eqb (eqb at) boxes w.add_box.new.boxes (Some w.new-mailbox.result)) c.get_mut.follows.holds-at-none w.in_ok-add_box-in-None.ensures.updates)
          (subst (λ (boxes : Boxes). IsPermutation ((at, w.new-mailbox.result) ∷ boxes.entries) w.add_box.new.boxes.entries) c.get_mut.follows.holds-at-none w.in_ok-add_box-in-None.ensures.entries)
          w.in_ok-add_box-in-None.ensures.unique)
    ])

pub invariant_of-self-2 : goal.invariant_of-self-2
invariant_of-self-2 c = (pushed c).0

pub returns-clause-pushed : goal.returns-clause-pushed
returns-clause-pushed c =
    subst
    (λ (queues : Queues).
    Requeues queues c.args.sent.endpoint (queue_of queues c.args.sent.endpoint ++ c.args.sent ∷ []) (queues_with c.match-get_mut.self-inside.boxes.entries c.match-get_mut.self-inside.servers))
    c.self.view_is (pushed c).1

pub returns-clause-len : goal.returns-clause-len
returns-clause-len c = (pushed c).2 ∙ ap (λ (queues : Queues). count queues + 1) c.self.view_is

-- for want of memory the mailbox is written back as it was
unchanged : (c : goal.After-from_residual) → (c.get_mut.follows.lender c.push_into.new.mailbox).entries ≡ c.self.inside.boxes.entries
unchanged c =
    written_back c.self.inside.boxes (c.get_mut.follows.lender c.push_into.new.mailbox) c.sent.inside.endpoint c.in-Some.mailbox.now c.push_into.new.mailbox (sym c.in-Some.ensures.value)
    c.in_err-push_into-in-Some.ensures.err.0 (c.get_mut.follows.holds c.push_into.new.mailbox)

pub invariant_of-self : goal.invariant_of-self
invariant_of-self c =
    sound_same c.self.inside.boxes (c.get_mut.follows.lender c.push_into.new.mailbox) c.self.inside.heads.items c.push_into.new.heads.items c.self.inside.count c.self.inside.servers c.self.invariant (unchanged c)
    c.in_err-push_into-in-Some.ensures.err.1

pub returns-in_err-push_into-in-Some-clause-err : goal.returns-in_err-push_into-in-Some-clause-err
returns-in_err-push_into-in-Some-clause-err c =
    view_same c.from_residual.result (ap (λ (entries : List (ℕ × Mailbox)). queues_with entries c.self.inside.servers) (unchanged c) ∙ c.self.view_is)
