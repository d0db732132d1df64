use Rattle.std.proofs.Common.{◌≡◌, ◌++◌, length, take}
use Rattle.link_frames.specs.Views.{handle_numbers}
use Rattle.vfs_script.specs.Transcripts.{handles_text}
use Rattle.vfs_script.proofs.printing.put_handles.Given as goal

abbrev pub invariant-loop-place : goal.invariant-loop-place
invariant-loop-place l =
    record {
      put : l.to ≡ l.fn.to ++ handles_text (take l.place (handle_numbers l.handles));
      grown : take (length l.fn.to) l.to ≡ l.fn.to;
    }
