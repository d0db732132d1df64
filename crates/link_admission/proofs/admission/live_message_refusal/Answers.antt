use Rattle.std.proofs.Common.{◌/◌, length, arith}
use Rattle.std.proofs.lemmas.List.Sums.{count_by-le-length}
use Rattle.link_frames.specs.Views.{handle_numbers}
use Rattle.fidl_names.specs.HandleNumber.{is_client}
use Rattle.link_frames.proofs.Words.{length-words_in}
use Rattle.link_admission.proofs.admission.live_message_refusal.Goals as goal

pub room_refusal-requires : goal.room_refusal-requires
room_refusal-requires g c =
    let b = c.args.handles.bytes.now in
    omega (arith, c.count_clients.ensures, count_by-le-length is_client (handle_numbers c.args.handles), length-words_in (length b / 4) b, c.ranges.handles)
