-- What a server is behind the serving of its connections, where its watchers are told: what is left of it to settle can be settled.
use Rattle.std.proofs.Common.{◌≡◌, ◌∙◌, ◌==◌, ◌<◌, ℕ, zero, suc, ◌+◌, ◌++◌, ◌||◌, Bool, true, false, List, [], ◌∷◌, length, Contains, Option, Some, None, nat_le, refl, sym, ap, subst, append_assoc, append-nil, arith, rules}
use Rattle.std.specs.Prelude.{IsSome, if◌then◌else◌}
use Rattle.std.proofs.lemmas.Bool.{eq-eqb}
use Rattle.std.specs.FinMap as finite
use Rattle.std.specs.Option.{option_map}
use Rattle.fidl_names.specs.HandleNumber.{handle_with, number_of_handle}
use Rattle.fidl_names.specs.declared.limits.TheConstants as limit
use Rattle.fidl_names.specs.declared.methods.Handle.{Handle}
use Rattle.fidl_names.specs.declared.methods.Handle.TheVariants.{Endpoint, Token}
use Rattle.link_admission.specs.Numbering.{among}
use Rattle.link_frames.specs.Frames.{spellings}
use Rattle.io_messages.specs.Requests.{request_of}
use Rattle.node_graph.specs.declared.nodes.NodeRef.{NodeRef}
use Rattle.node_graph.specs.Graph.{Kept, StandsFor, number_of}
use Rattle.node_graph.specs.Tree.{Tree}
use Rattle.conn_rules.specs.declared.changes.Changes.{Changes}
use Rattle.conn_rules.specs.Births.{Connection, Position}
use Rattle.conn_rules.specs.Served.{KeepsHolds, told_by}
use Rattle.vfs_journal.specs.Entries.{message}
use Rattle.vfs_journal.specs.Handles.{AreByNumber, numbers_of}
use Rattle.vfs_journal.specs.Outcomes.{Outcome}
use Rattle.vfs_journal.specs.Output.{Begins}
use Rattle.vfs_journal.specs.Serving.{Moment, outcome_of_read, outcome_of_sending}
use Rattle.vfs_journal.specs.Starts.{Bound}
use Rattle.vfs_journal.specs.View.{moved}
use Rattle.vfs_server.specs.declared.asking.Asking.{Asking}
use Rattle.vfs_server.specs.declared.deed.Deed.{Deed}
use Rattle.vfs_server.specs.declared.deed.Deed.TheVariants as deeds
use Rattle.vfs_server.specs.declared.fate.Fate.{Fate}
use Rattle.vfs_server.specs.declared.message.Message.{Message}
use Rattle.vfs_server.specs.Kept.{Connections, IsSound, Tokens}
use Rattle.vfs_server.specs.Servers.{Server, named, seen}
use Rattle.vfs_server.specs.Serving.{CanTake, IsMomentOf, Serves, message_of}
use Rattle.vfs_server.specs.Steps.{Answers, AreNamed, CanBeTold, CanSettle, CanTell, Done, HasAnswered, IsAskedAt, IsPassedOver, IsTold, Settles, Takes, done_with}
use Rattle.vfs_server.specs.Seats.{Seats}
use Rattle.vfs_server.specs.Telling.{told_of}
use Rattle.vfs_server.specs.Watched.{first_of}
use Rattle.vfs_server.proofs.Binding.{either_way, server_of, watches_there}
use Rattle.vfs_server.proofs.Maps.{get_put}
use Rattle.vfs_server.proofs.Servings.{at_server, below, can_be_told, is_asked, named_is, nothing_told_of, passes_over, serves_message, watched_at}
use Rattle.vfs_server.proofs.Settled.{settled}
use Rattle.vfs_server.proofs.Sound.{sound_served}

pub begins_on : (before between after : List ℕ) → Begins before between → Begins between after → Begins before after
begins_on before between after (one, is) (other, then_is) =
    (one ++ other, then_is ∙ ap (λ (bytes : List ℕ). bytes ++ other) is ∙ append_assoc before one other)

-- an endpoint that comes with others is among their numbers, and no token
came_low : (handles : List Handle) (n : ℕ) → AreByNumber handles → Contains handles (Endpoint n) → (among n (numbers_of handles) ≡ true) × (n < limit.FIRST_TOKEN)
came_low [] n numbered (i, low, is) = absurd (omega (arith, low))
came_low (h ∷ hs) n numbered (zero, low, is) =
    let here : h ≡ Endpoint n = cc in
    let number : number_of_handle h ≡ n = ap number_of_handle here in
    let by_number : handle_with (number_of_handle h) ≡ h = cc in
    let same : handle_with n ≡ Endpoint n = ap handle_with (sym number) ∙ by_number ∙ here in
    (ap (λ b. b || among n (numbers_of hs)) (eq-eqb (number_of_handle h) n number), not_token (nat_le limit.FIRST_TOKEN n) refl same) where
      not_token : (b : Bool) → nat_le limit.FIRST_TOKEN n ≡ b → (if b then Token n else Endpoint n) ≡ Endpoint n → n < limit.FIRST_TOKEN
      not_token true is same = absurd (let wrong : Token n ≡ Endpoint n = same in search rules)
      not_token false is same = below limit.FIRST_TOKEN n is
came_low (h ∷ hs) n numbered (suc i, low, is) =
    let rest : AreByNumber hs = cc in
    let later = came_low hs n rest (i, omega (arith, low), is) in
    (or_behind (number_of_handle h == n) (among n (numbers_of hs)) later.0, later.1) where
      or_behind : (a b : Bool) → b ≡ true → (a || b) ≡ true
      or_behind true b is = refl
      or_behind false b is = is

-- ---- what is left to settle

module _ (old mid : Server) (moment : Moment) (outcome : Outcome) (before after : List ℕ) (endpoint : ℕ) (token : Option ℕ) (handles : List Handle) (numbered : AreByNumber handles)
    (takes : CanTake old endpoint token (numbers_of handles)) where
  unseen : (deed : Deed) → HasAnswered moment outcome deed old mid before after → (number : ℕ) → Contains handles (Endpoint number) → seen mid number ≡ None
  unseen deed answered number came =
      let low = came_low handles number numbered came in
      answered.bound number ∙ ap (option_map (moved moment.bound.endpoint outcome.position)) (takes.unbound number low.0 low.1)

  pub can_settle : (deed : Deed) → HasAnswered moment outcome deed old mid before after → ((number : ℕ) → Takes deed number → Contains handles (Endpoint number)) →
      ((next : ℕ) (directory : NodeRef) → deed ≡ deeds.Gives next directory → token ≡ Some next) → CanSettle mid deed
  can_settle deeds.Stays answered came next_is = tt
  can_settle deeds.Ends answered came next_is = tt
  can_settle (deeds.Binds object birth) answered came next_is =
      (unseen (deeds.Binds object birth) answered object (came object refl), answered.has_place object birth refl)
  can_settle (deeds.Watches object directory mask) answered came next_is =
      (unseen (deeds.Watches object directory mask) answered object (came object refl), answered.watched object mask directory refl)
  can_settle (deeds.Refuses object) answered came next_is = tt
  can_settle (deeds.Forwards mount object flags rest) answered came next_is = tt
  can_settle (deeds.Gives next directory) answered came next_is = record {
    free = ap (λ (tokens : Tokens). option_map number_of (finite.get tokens next)) answered.tokens ∙ takes.unnamed next (next_is next directory refl);
    directory = answered.given next directory refl;
    room =
        let few = takes.room next (next_is next directory refl) in
        let same = ap (λ (tokens : Tokens). finite.len tokens) answered.tokens in
        omega (arith, few, same);
  }

-- ---- behind the serving of the connections

module _ (index : ℕ) (graph changed : Kept) (connections now : Connections) (seats : Seats) (tokens : Tokens) (sound : IsSound graph connections seats tokens)
    (asking : Asking) (used : asking.connections ≡ finite.len connections + length seats) (who : asking.watching.now ≡ seats) (whose : asking.tokens.now ≡ tokens)
    (sent : Message) (numbered : AreByNumber sent.handles.now) (takes : CanTake (server_of index graph connections seats tokens) asking.endpoint asking.token (numbers_of sent.handles.now))
    (deed : Deed) (changes : Changes) (before between : List ℕ)
    (served : (old : Connection) → finite.get connections asking.endpoint ≡ Some old →
    (new : Connection) × KeepsHolds old new graph changed × (now ≡ finite.insert connections asking.endpoint new) × CanTell asking sent.handles.now (done_with deed changes) new before between
    × ((server : ℕ) (moment : Moment) → IsAskedAt server asking graph old moment → AreNamed asking.tokens.now (numbers_of sent.handles.now) moment.directory →
    Answers moment (outcome_of_read moment (request_of old.birth.protocol sent.bytes.now sent.handles.now)) (done_with deed changes) new graph changed before between))
    (passed_over : finite.get connections asking.endpoint ≡ None → IsPassedOver (done_with deed changes))
    (unchanged : finite.get connections asking.endpoint ≡ None → (now ≡ connections) × (changed ≡ graph) × (between ≡ before)) where
  -- the server before and then
  abbrev old_one : Server
  old_one = server_of index graph connections seats tokens

  abbrev mid_one : Server
  mid_one = server_of index changed now seats tokens

  abbrev done : Done
  done = done_with deed changes

  sound_then : (old : Connection) (there : finite.get connections asking.endpoint ≡ Some old) → IsSound changed (finite.insert connections asking.endpoint (served old there).0) seats tokens
  sound_then old there =
      sound_served graph changed connections seats tokens asking.endpoint old (served old there).0 sound there (served old there).1

  pub can_tell_now : CanBeTold changed done
  can_tell_now =
      either_way _ (finite.get connections asking.endpoint)
      (λ old there.
      let one = served old there in
      can_be_told asking sent.handles.now changed one.0 done before between ((sound_then old there).each asking.endpoint one.0 (get_put connections asking.endpoint one.0)) one.3)
      (λ none. nothing_told_of changed done (passed_over none))

  pub begins_now : Begins before between
  begins_now =
      either_way _ (finite.get connections asking.endpoint)
      (λ old there. (served old there).3.front)
      (λ none. (_, (unchanged none).2 ∙ sym (append-nil before)))

  module _ (behind : List ℕ) (telling : IsTold seats changed done between behind) where
    on_connection : (moment : Moment) → IsMomentOf old_one asking.endpoint asking.token (numbers_of sent.handles.now) moment → (old : Connection) → finite.get connections asking.endpoint ≡ Some old →
        HasAnswered moment (outcome_of_sending moment (message_of sent)) deed old_one mid_one before behind
    on_connection moment here old there =
        let one = served old there in
        let answers = one.4 index moment
        (is_asked index graph connections seats tokens asking (numbers_of sent.handles.now) moment old there used who here)
        (subst (λ (found : Tokens). AreNamed found (numbers_of sent.handles.now) moment.directory) (sym whose) (named_is index graph connections seats tokens asking (numbers_of sent.handles.now) moment old there used who here)) in
        subst (λ (then_ones : Connections). HasAnswered moment (outcome_of_sending moment (message_of sent)) deed old_one (server_of index changed then_ones seats tokens) before behind) (sym one.2)
        (serves_message index graph connections seats tokens asking (numbers_of sent.handles.now) moment old there used who here
        changed one.0 sent.bytes.now sent.handles.now done before between behind
        refl numbered (sound.each asking.endpoint old there) one.1 ((sound_then old there).each asking.endpoint one.0 (get_put connections asking.endpoint one.0))
        answers telling)

    on_watcher : (moment : Moment) → IsMomentOf old_one asking.endpoint asking.token (numbers_of sent.handles.now) moment → finite.get connections asking.endpoint ≡ None →
        HasAnswered moment (outcome_of_sending moment (message_of sent)) deed old_one mid_one before behind
    on_watcher moment here none =
        let same = unchanged none in
        let seat = watches_there index asking.endpoint seats (finite.get connections asking.endpoint) none (subst IsSome (sym here.bound) refl) in
        subst (λ (then_ones : Connections). HasAnswered moment (outcome_of_sending moment (message_of sent)) deed old_one (server_of index changed then_ones seats tokens) before behind) (sym same.0)
        (subst (λ (then_graph : Kept). HasAnswered moment (outcome_of_sending moment (message_of sent)) deed old_one (server_of index then_graph connections seats tokens) before behind) (sym same.1)
        (passes_over index graph connections seats tokens asking.endpoint asking.token (numbers_of sent.handles.now) moment seat.0 none seat.1 here
        sent.bytes.now done before between behind (passed_over none) same.2
        (subst (λ (then_graph : Kept). behind ≡ between ++ spellings (first_of then_graph.edges deed ++ told_of seats (told_by changes))) same.1 telling)))

    answered : (moment : Moment) → IsMomentOf old_one asking.endpoint asking.token (numbers_of sent.handles.now) moment →
        HasAnswered moment (outcome_of_sending moment (message_of sent)) deed old_one mid_one before behind
    answered moment asked =
        either_way _ (finite.get connections asking.endpoint) (on_connection moment asked) (on_watcher moment asked)

    -- the moment speaks of this server
    at_here : (moment : Moment) → IsMomentOf old_one asking.endpoint asking.token (numbers_of sent.handles.now) moment → index ≡ moment.bound.server
    at_here moment here =
        either_way _ (finite.get connections asking.endpoint)
        (λ old there. at_server index graph connections seats tokens asking (numbers_of sent.handles.now) moment old there used who here)
        (λ none.
        let seat = watches_there index asking.endpoint seats (finite.get connections asking.endpoint) none (subst IsSome (sym here.bound) refl) in
        watched_at index graph connections seats tokens asking.endpoint asking.token (numbers_of sent.handles.now) moment seat.0 none seat.1 here)

    pub can_settle_now : CanSettle mid_one deed
    can_settle_now =
        let moment = takes.moment.0 in
        let did = answered moment takes.moment.1 in
        either_way _ (finite.get connections asking.endpoint)
        (λ old there.
        let one = served old there in
        can_settle old_one mid_one moment _ before behind asking.endpoint asking.token sent.handles.now numbered takes deed did one.3.taken one.3.next)
        (λ none. subst (CanSettle mid_one) (sym (passed_over none).deed) tt)

    pub serves_now : (new : Server) (fate : Fate) → Settles mid_one deed fate new → (moment : Moment) → IsMomentOf old_one asking.endpoint asking.token (numbers_of sent.handles.now) moment →
        Serves moment (outcome_of_sending moment (message_of sent)) fate old_one new before behind
    serves_now new fate settles moment asked =
        settled moment _ deed fate old_one mid_one new before behind (answered moment asked) (at_here moment asked) settles

-- what is kept is sound, whatever the serving came to
pub sound_now : (graph changed : Kept) (connections now : Connections) (seats : Seats) (tokens : Tokens) (endpoint : ℕ) → IsSound graph connections seats tokens →
    ((old : Connection) → finite.get connections endpoint ≡ Some old → (new : Connection) × KeepsHolds old new graph changed × (now ≡ finite.insert connections endpoint new)) →
    (finite.get connections endpoint ≡ None → (now ≡ connections) × (changed ≡ graph)) → IsSound changed now seats tokens
sound_now graph changed connections now seats tokens endpoint sound served unchanged =
    either_way _ (finite.get connections endpoint)
    (λ old there.
    let one = served old there in
    subst (λ (then_ones : Connections). IsSound changed then_ones seats tokens) (sym one.2)
    (sound_served graph changed connections seats tokens endpoint old one.0 sound there one.1))
    (λ none.
    let same = unchanged none in
    subst (λ (then_ones : Connections). IsSound changed then_ones seats tokens) (sym same.0)
    (subst (λ (then_graph : Kept). IsSound then_graph connections seats tokens) (sym same.1) sound))
