use Rattle.std.proofs.Common.{◌≡◌, ◌∷◌, ◌++◌, ℕ, List, All, OnOk, Option, None, Some, append_assoc, refl, subst, sym}
use Rattle.std.proofs.lemmas.Grind.{flat_map-append}
use Rattle.std.proofs.lemmas.List.{append-nil}
use Rattle.std.specs.Prelude.{option_to_list}
use Rattle.std.specs.Option.{option_map}
use Rattle.std.proofs.lemmas.List.Elements.{All-head, All-tail}
use Rattle.conn_rules.specs.declared.changes.At.{At}
use Rattle.conn_rules.specs.declared.changes.Changes.{Changes}
use Rattle.conn_rules.specs.Answers as news
use Rattle.conn_rules.specs.Served.{key_at, told_by}
use Rattle.node_graph.specs.Tree.{HasNameLength}
use Rattle.link_frames.specs.Frames.{Frame, spellings}
use Rattle.link_frames.proofs.Runs.{spellings-append}
use Rattle.watch_events.specs.Messages.{WritesFront}
use Rattle.watch_events.specs.Messages as messages
use Rattle.watch_events.proofs.Told.{for_want, front_behind, front_first, on_want}
use Rattle.vfs_server.specs.Seats.{Seats}
use Rattle.vfs_server.specs.Telling.{IsShort, gone_told, name_told, told_of, told_to}
use Rattle.vfs_server.proofs.watching.Watching.tell.Goals as goal

-- where all that is told is short, the name that is new is
new_short : (taken new : Option At) (deleted : Option ℕ) → All IsShort (told_by (record { removed = taken; added = new; deleted = deleted })) → (one : At) → new ≡ Some one → HasNameLength one.name.now
new_short taken None deleted all one is = absurd (cc)
new_short None (Some here) deleted all one is =
    let same : here ≡ one = cc in
    subst (λ (at : At). HasNameLength at.name.now) same (All-head IsShort (news.added (key_at here)) (option_to_list (option_map news.deleted deleted)) all)
new_short (Some before) (Some here) deleted all one is =
    let same : here ≡ one = cc in
    subst (λ (at : At). HasNameLength at.name.now) same (All-head IsShort (news.added (key_at here)) (option_to_list (option_map news.deleted deleted))
    (All-tail IsShort (news.removed (key_at before)) (news.added (key_at here) ∷ option_to_list (option_map news.deleted deleted)) all))

-- and the name that is gone
gone_short : (taken new : Option At) (deleted : Option ℕ) → All IsShort (told_by (record { removed = taken; added = new; deleted = deleted })) → (one : At) → taken ≡ Some one → HasNameLength one.name.now
gone_short None new deleted all one is = absurd (cc)
gone_short (Some here) new deleted all one is =
    let same : here ≡ one = cc in
    subst (λ (at : At). HasNameLength at.name.now) same
    (All-head IsShort (news.removed (key_at here)) (option_to_list (option_map (λ at. news.added (key_at at)) new) ++ option_to_list (option_map news.deleted deleted)) all)

-- what is told of changes is what is told of each
removed_told : (seats : Seats) (at : Option At) → told_of seats (option_to_list (option_map (λ at. news.removed (key_at at)) at)) ≡ name_told seats messages.removed at
removed_told seats None = refl
removed_told seats (Some at) = append-nil (told_to seats (news.removed (key_at at)))

added_told : (seats : Seats) (at : Option At) → told_of seats (option_to_list (option_map (λ at. news.added (key_at at)) at)) ≡ name_told seats messages.added at
added_told seats None = refl
added_told seats (Some at) = append-nil (told_to seats (news.added (key_at at)))

deleted_told : (seats : Seats) (directory : Option ℕ) → told_of seats (option_to_list (option_map news.deleted directory)) ≡ gone_told seats directory
deleted_told seats None = refl
deleted_told seats (Some directory) = append-nil (told_to seats (news.deleted directory))

told_each : (seats : Seats) (changes : Changes) → told_of seats (told_by changes) ≡ name_told seats messages.removed changes.removed ++ (name_told seats messages.added changes.added ++ gone_told seats changes.deleted)
told_each seats changes =
    let taken = option_to_list (option_map (λ at. news.removed (key_at at)) changes.removed) in
    let new = option_to_list (option_map (λ at. news.added (key_at at)) changes.added) in
    let gone = option_to_list (option_map news.deleted changes.deleted) in
    let one = flat_map-append (told_to seats) (taken ++ new) gone in
    let two = flat_map-append (told_to seats) taken new in
    rw (one, two, removed_told seats changes.removed, added_told seats changes.added, deleted_told seats changes.deleted) (simp append_assoc)

told_behind : (old first second : List ℕ) (a b c whole : List Frame) → first ≡ old ++ spellings a → second ≡ first ++ spellings b → whole ≡ a ++ (b ++ c) → second ++ spellings c ≡ old ++ spellings whole
told_behind old first second a b c whole one two all = rw (two, one, all, spellings-append a (b ++ c), spellings-append b c) (simp append_assoc)

pub returns-clause-told : goal.returns-clause-told
returns-clause-told c =
    let seats = c.args.self.now in
    let changes = c.args.changes.now in
    subst (λ (bytes : List ℕ). OnOk c.tell_gone.result (c.tell_gone.new.outbox ≡ bytes))
    (told_behind c.args.outbox.now c.tell_name.new.outbox c.tell_name-2.new.outbox (name_told seats messages.removed changes.removed) (name_told seats messages.added changes.added) (gone_told seats changes.deleted)
    (told_of seats (told_by changes)) c.in_ok-tell_name.ensures.told c.in_ok-tell_name-2.ensures.told (told_each seats changes))
    c.tell_gone.ensures.told

-- of what is told in three parts a front of the first is a front, and so is a front of the second behind the first, and of the third behind both
pub returns-in_err-tell_name-clause-front : goal.returns-in_err-tell_name-clause-front
returns-in_err-tell_name-clause-front c =
    let seats = c.args.self.now in
    let changes = c.args.changes.now in
    for_want c.from_residual.result
    (subst (λ (frames : List Frame). WritesFront frames c.args.outbox.now c.tell_name.new.outbox) (sym (told_each seats changes))
    (front_first (name_told seats messages.removed changes.removed) (name_told seats messages.added changes.added ++ gone_told seats changes.deleted)
    c.args.outbox.now c.tell_name.new.outbox c.in_err-tell_name.ensures.front))

pub returns-in_err-tell_name-2-clause-front : goal.returns-in_err-tell_name-2-clause-front
returns-in_err-tell_name-2-clause-front c =
    let seats = c.args.self.now in
    let changes = c.args.changes.now in
    for_want c.from_residual-in_err-tell_name-2.result
    (subst (λ (frames : List Frame). WritesFront frames c.args.outbox.now c.tell_name-2.new.outbox) (sym (told_each seats changes))
    (front_behind (name_told seats messages.removed changes.removed) (name_told seats messages.added changes.added ++ gone_told seats changes.deleted)
    c.args.outbox.now c.tell_name.new.outbox c.tell_name-2.new.outbox c.in_ok-tell_name.ensures.told
    (front_first (name_told seats messages.added changes.added) (gone_told seats changes.deleted) c.tell_name.new.outbox c.tell_name-2.new.outbox c.in_err-tell_name-2.ensures.front)))

pub returns-clause-front : goal.returns-clause-front
returns-clause-front c =
    let seats = c.args.self.now in
    let changes = c.args.changes.now in
    on_want c.tell_gone.result
    (λ front.
    subst (λ (frames : List Frame). WritesFront frames c.args.outbox.now c.tell_gone.new.outbox) (sym (told_each seats changes))
    (front_behind (name_told seats messages.removed changes.removed) (name_told seats messages.added changes.added ++ gone_told seats changes.deleted)
    c.args.outbox.now c.tell_name.new.outbox c.tell_gone.new.outbox c.in_ok-tell_name.ensures.told
    (front_behind (name_told seats messages.added changes.added) (gone_told seats changes.deleted) c.tell_name.new.outbox c.tell_name-2.new.outbox c.tell_gone.new.outbox c.in_ok-tell_name-2.ensures.told front)))
    c.tell_gone.ensures.front

pub tell_name-requires : goal.tell_name-requires
tell_name-requires c = record {
  short = gone_short c.args.changes.now.removed c.args.changes.now.added c.args.changes.now.deleted c.requires.short;
}

pub tell_name-requires-2 : goal.tell_name-requires-2
tell_name-requires-2 c = record {
  short = new_short c.args.changes.now.removed c.args.changes.now.added c.args.changes.now.deleted c.requires.short;
}
