-- That what watchers are told are frames.
use Rattle.std.proofs.Common.{◌≡◌, ℕ, ◌+◌, ◌≤◌, ◌<◌, Bool, true, false, cond, nat_le, List, [], ◌∷◌, ◌++◌, length, map, filter, refl, All, lit<, arith, length-append}
use Rattle.std.proofs.lemmas.Bool.{leb-true}
use Rattle.std.proofs.lemmas.List.Elements.{All-nil, All-cons, All-head, All-tail, All-append, All-filter, All-map, All-weaker}
use Rattle.link_frames.specs.declared.kinds.Side.TheVariants.{Any}
use Rattle.link_frames.specs.Frames.{IsFrame}
use Rattle.fidl_names.specs.Numbers.{AreBytes}
use Rattle.fidl_names.specs.declared.limits.TheConstants as limit
use Rattle.path_walk.specs.Names.{dot}
use Rattle.conn_rules.specs.Answers.{Happening}
use Rattle.conn_rules.specs.Answers as news
use Rattle.watch_events.specs.Events.{event_bytes}
use Rattle.watch_events.specs.Messages.{Watcher, added, asks_for, deleted, existing, first_messages, gathered, idle, removed, snapshot, told, watch_frame}
use Rattle.watch_events.specs.Messages as messages
use Rattle.vfs_journal.specs.History.{watches_node}
use Rattle.vfs_journal.specs.Starts.{Bound}
use Rattle.vfs_journal.specs.Watching.{told_by, told_frames, told_of, watcher_of}
use Rattle.frame_laws.proofs.Replies.{FitsWord, plain_frame}
use Rattle.journal_laws.proofs.Texts.{IsShortName, both_written, first_written, none_written}

-- bytes that one message to a watcher can have
record IsPiece (piece : List ℕ) : Type 0 where
  bytes : AreBytes piece
  short : length piece ≤ limit.MAX_CHUNK

-- an event with a small number
event_piece : (event : ℕ) (name : List ℕ) → event < 256 → IsShortName name → IsPiece (event_bytes event name)
event_piece event name small h =
    let short = h.short in
    record {
      bytes = first_written event (length name ∷ name) small (first_written (length name) name (omega (arith, short)) h.bytes);
      short = omega (arith, short);
    }

dot_name : IsShortName dot
dot_name = record { bytes = first_written 46 [] (lit< tt) none_written; short = omega arith }

no_name : IsShortName []
no_name = record { bytes = none_written; short = omega arith }

gathered_pieces : (begun : List ℕ) (pieces : List (List ℕ)) → IsPiece begun → All IsPiece pieces → All IsPiece (gathered begun pieces)
gathered_pieces begun [] first rest = All-cons IsPiece begun [] first (All-nil IsPiece)
gathered_pieces begun (piece ∷ pieces) first rest =
    by_test (nat_le (length begun + length piece) limit.MAX_CHUNK) refl (All-head IsPiece piece pieces rest) (λ more is. gathered_pieces more pieces is (All-tail IsPiece piece pieces rest)) where
      by_test : (b : Bool) → nat_le (length begun + length piece) limit.MAX_CHUNK ≡ b → IsPiece piece → ((more : List ℕ) → IsPiece more → All IsPiece (gathered more pieces)) →
          All IsPiece (cond b (gathered (begun ++ piece) pieces) (begun ∷ gathered piece pieces))
      by_test true fits next on =
          on (begun ++ piece)
          (record {
            bytes = both_written begun piece first.bytes next.bytes;
            short = let room = leb-true (length begun + length piece) limit.MAX_CHUNK fits in omega (arith, room, length-append begun piece);
          })
      by_test false fits next on = All-cons IsPiece begun (gathered piece pieces) first (on piece next)

named_pieces : (names : List (List ℕ)) → All IsShortName names → All IsPiece (map (event_bytes existing) names)
named_pieces names h =
    All-map IsPiece (event_bytes existing) names (All-weaker IsShortName (λ name. IsPiece (event_bytes existing name)) (λ name is. event_piece existing name (lit< tt) is) names h)

first_pieces : (mask : ℕ) (names : List (List ℕ)) → All IsShortName names → All IsPiece (first_messages mask names)
first_pieces mask names h =
    All-append IsPiece (cond (asks_for mask existing) (snapshot names) []) (cond (asks_for mask idle) (event_bytes idle [] ∷ []) []) (of_names (asks_for mask existing)) (of_end (asks_for mask idle)) where
      of_names : (b : Bool) → All IsPiece (cond b (snapshot names) [])
      of_names true = gathered_pieces (event_bytes existing dot) (map (event_bytes existing) names) (event_piece existing dot (lit< tt) dot_name) (named_pieces names h)
      of_names false = All-nil IsPiece

      of_end : (b : Bool) → All IsPiece (cond b (event_bytes idle [] ∷ []) [])
      of_end true = All-cons IsPiece (event_bytes idle []) [] (event_piece idle [] (lit< tt) no_name) (All-nil IsPiece)
      of_end false = All-nil IsPiece

piece_frame : (endpoint : ℕ) (bytes : List ℕ) → FitsWord endpoint → IsPiece bytes → IsFrame Any (watch_frame endpoint bytes)
piece_frame endpoint bytes numbered h = let short = h.short in plain_frame endpoint bytes numbered (record { bytes = h.bytes; short = omega (arith, short) })

-- a new watcher's first messages
pub first_told : (endpoint mask : ℕ) (names : List (List ℕ)) → FitsWord endpoint → All IsShortName names → All (IsFrame Any) (messages.first_frames endpoint mask names)
first_told endpoint mask names numbered h =
    All-map (IsFrame Any) (watch_frame endpoint) (first_messages mask names)
    (All-weaker IsPiece (λ bytes. IsFrame Any (watch_frame endpoint bytes)) (λ bytes is. piece_frame endpoint bytes numbered is) (first_messages mask names) (first_pieces mask names h))

-- ---- changes

-- the name that a happening tells
abbrev pub TellsName : Happening → Type 0
TellsName (news.removed name) = IsShortName name.name
TellsName (news.added name) = IsShortName name.name
TellsName (news.deleted directory) = Unit {0}

event_told : (watchers : List Watcher) (event : ℕ) (name : List ℕ) → event < 256 → IsShortName name → All (λ watcher. FitsWord watcher.endpoint) watchers → All (IsFrame Any) (told watchers event name)
event_told watchers event name small h numbered =
    let asks : Watcher → Bool = λ watcher. asks_for watcher.mask event in
    All-map (IsFrame Any) (λ (watcher : Watcher). watch_frame watcher.endpoint (event_bytes event name)) (filter asks watchers)
    (All-weaker (λ (watcher : Watcher). FitsWord watcher.endpoint) (λ (watcher : Watcher). IsFrame Any (watch_frame watcher.endpoint (event_bytes event name)))
    (λ watcher is. piece_frame watcher.endpoint (event_bytes event name) is (event_piece event name small h)) (filter asks watchers)
    (All-filter asks (λ (watcher : Watcher). FitsWord watcher.endpoint) watchers numbered))

module _ (living : List Bound) (server : ℕ) (numbered : All (λ (bound : Bound). FitsWord bound.endpoint) living) where
  directory_told : (directory event : ℕ) (name : List ℕ) → event < 256 → IsShortName name → All (IsFrame Any) (told_of living server directory event name)
  directory_told directory event name small h =
      event_told (map watcher_of (filter (watches_node server directory) living)) event name small h
      (All-map (λ (watcher : Watcher). FitsWord watcher.endpoint) watcher_of (filter (watches_node server directory) living)
      (All-filter (watches_node server directory) (λ (bound : Bound). FitsWord bound.endpoint) living numbered))

  one_told : (happening : Happening) → TellsName happening → All (IsFrame Any) (told_by living server happening)
  one_told (news.removed name) h = directory_told name.directory removed name.name (lit< tt) h
  one_told (news.added name) h = directory_told name.directory added name.name (lit< tt) h
  one_told (news.deleted directory) h = directory_told directory deleted dot (lit< tt) dot_name

  pub all_told : (happenings : List Happening) → All TellsName happenings → All (IsFrame Any) (told_frames living server happenings)
  all_told [] h = All-nil (IsFrame Any)
  all_told (happening ∷ later) h =
      All-append (IsFrame Any) (told_by living server happening) (told_frames living server later) (one_told happening (All-head TellsName happening later h)) (all_told later (All-tail TellsName happening later h))
