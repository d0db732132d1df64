-- A quiet sending is answered as in a moment with nothing in use, or its answer tells of a limit.
use Rattle.std.proofs.Common.{◌≡◌, ◌⊎◌, ℕ, List, [], ◌∷◌, Ok, Err, refl, sym, ap, subst, inl, inr}
use Rattle.fidl_names.specs.StatusNumber.{number_of}
use Rattle.fidl_names.specs.declared.statuses.Status.TheVariants as status
use Rattle.wire_laws.specs.Laws.{SpelledWhereRead}
use Rattle.wire_laws.proofs.WrittenEpitaphs.{epitaph_again}
use Rattle.fidl_wire.specs.Epitaphs.{epitaph_bytes}
use Rattle.link_frames.specs.declared.kinds.FrameKind.TheVariants as kind
use Rattle.link_frames.specs.Frames.{frame_with}
use Rattle.io_messages.specs.declared.protocols.Protocol.{Protocol}
use Rattle.io_messages.specs.declared.protocols.Protocol.TheVariants as protocol
use Rattle.node_graph.specs.Tree.{Tree}
use Rattle.conn_rules.specs.Answers.{Act, only, refuses}
use Rattle.vfs_journal.specs.Entries.{Sending, message, hang_up}
use Rattle.vfs_journal.specs.Outcomes.{Asker, Outcome, close_frame, outcome_with}
use Rattle.vfs_journal.specs.Serving.{Moment, Read, asker_of, object_of, outcome_of_message, outcome_of_read, outcome_of_sending, read_by}
use Rattle.journal_laws.proofs.Members.{contains_here}
use Rattle.turn_law.specs.Premises.{Changes, TellsLimit}
use Rattle.turn_law.specs.Premises as premises
use Rattle.turn_law.specs.Quiet.{IsQuiet}
use Rattle.turn_law.specs.Room.{AnswersAreStill, TellOfLimit}
use Rattle.turn_law.specs.Told.{still}
use Rattle.turn_law.proofs.QuietSends.{quiet_read}
use Rattle.turn_law.proofs.RoomActs.{IsSameOrFull, act_alike, empty_room, names_nothing}

-- the same moment with nothing in use
abbrev emptied : Moment → Moment
emptied moment = record { bound = moment.bound; position = moment.position; room = empty_room; tree = moment.tree; directory = names_nothing }

abbrev IsSameOrTold : Outcome → Outcome → Type 0
IsSameOrTold outcome other = (outcome ≡ other) ⊎ TellOfLimit outcome.frames

full_told : (asker : Asker) (act : Act) (moment : Moment) → act ≡ only moment.position (refuses status.NoResources) → TellOfLimit (outcome_with asker act).frames
full_told asker act moment e =
    let frame = frame_with asker.object kind.Message [] (epitaph_bytes (number_of status.NoResources)) in
    subst (λ (a : Act). TellOfLimit (outcome_with asker a).frames) (sym e)
    (record {
      frame = frame;
      there = contains_here frame (close_frame asker.object ∷ []);
      tells = premises.ends frame refl (epitaph_again status.NoResources);
    })

act_told : (asker : Asker) (act other : Act) (moment : Moment) → IsSameOrFull moment.position act other → IsSameOrTold (outcome_with asker act) (outcome_with asker other)
act_told asker act other moment (inl e) = inl (ap (outcome_with asker) e)
act_told asker act other moment (inr e) = inr (full_told asker act moment e)

read_alike : SpelledWhereRead → (moment : Moment) (p : Protocol) (bytes handles : List ℕ) → ¬ (Changes bytes handles) → (r : Read) → read_by p bytes handles ≡ r → IsSameOrTold (outcome_of_read moment r) (outcome_of_read (emptied moment) r)
read_alike law moment p bytes handles quiet (Ok found) e =
    act_told (asker_of moment.bound found.0 (object_of found.1)) _ _ moment
    (act_alike moment.bound.birth moment.position moment.room moment.tree moment.directory found.1 (quiet_read law p bytes handles found.0 found.1 quiet e))
read_alike law moment p bytes handles quiet (Err fault) e = inl refl

message_alike : SpelledWhereRead → (moment : Moment) (bytes handles : List ℕ) → ¬ (Changes bytes handles) → (p : Protocol) → IsSameOrTold (outcome_of_message moment p bytes handles) (outcome_of_message (emptied moment) p bytes handles)
message_alike law moment bytes handles quiet protocol.Watcher = inl refl
message_alike law moment bytes handles quiet protocol.Directory = read_alike law moment protocol.Directory bytes handles quiet _ refl
message_alike law moment bytes handles quiet protocol.File = read_alike law moment protocol.File bytes handles quiet _ refl
message_alike law moment bytes handles quiet protocol.Node = read_alike law moment protocol.Node bytes handles quiet _ refl
message_alike law moment bytes handles quiet protocol.Echo = read_alike law moment protocol.Echo bytes handles quiet _ refl

sending_alike : SpelledWhereRead → (moment : Moment) (sending : Sending) → IsQuiet sending → IsSameOrTold (outcome_of_sending moment sending) (outcome_of_sending (emptied moment) sending)
unfolding outcome_of_sending
sending_alike law moment (message bytes handles) quiet = message_alike law moment bytes handles quiet moment.bound.birth.protocol
sending_alike law moment hang_up quiet = inl refl

pub answers_still : SpelledWhereRead → AnswersAreStill
answers_still law start moment sending tree quiet =
    subst (λ (m : Moment). IsSameOrTold (outcome_of_sending moment sending) (outcome_of_sending m sending)) same (sending_alike law moment sending quiet) where
      same : emptied moment ≡ still start (moment.bound, moment.position)
      same = ap (λ (t : Tree). let m : Moment = record { bound = moment.bound; position = moment.position; room = empty_room; tree = t; directory = names_nothing } in m) tree
