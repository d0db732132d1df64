-- A reply has a handle exactly where it gives a token.
use Rattle.std.proofs.Common.{◌≡◌, ℕ, refl, sym, ap}
use Rattle.io_messages.specs.Replies.{Answered, done, fails, counted, payload, settled, token, attributes, unknown}
use Rattle.io_messages.specs.ReplyWriting.{reply_handles}
use Rattle.conn_rules.proofs.TokenHandles.{handles_of_reply}
use Rattle.vfs_journal.specs.Outcomes.{token_in}
use Rattle.vfs_server.specs.Steps.{asker_with, token_given}

module _ (endpoint server node txid object : ℕ) where
  pub token_is : (a : Answered) → token_in (asker_with endpoint server node txid object) a ≡ token_given endpoint server node (reply_handles a)
  token_is (done m) = sym (ap (token_given endpoint server node) (handles_of_reply (done m)))
  token_is (fails m s) = sym (ap (token_given endpoint server node) (handles_of_reply (fails m s)))
  token_is (counted m x) = sym (ap (token_given endpoint server node) (handles_of_reply (counted m x)))
  token_is (payload m bytes) = sym (ap (token_given endpoint server node) (handles_of_reply (payload m bytes)))
  token_is (settled m) = sym (ap (token_given endpoint server node) (handles_of_reply (settled m)))
  token_is (token n) = refl
  token_is (attributes a) = sym (ap (token_given endpoint server node) (handles_of_reply (attributes a)))
  token_is (unknown ordinal) = refl
