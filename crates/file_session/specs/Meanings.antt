-- Values of the code as the definitions see them.
use Rattle.std.specs.Prelude.{◌<◌}
use Rattle.file_session.specs.declared.messages.Meaning.{Meaning as TheMeaning}
use Rattle.file_session.specs.declared.messages.Meaning.TheVariants as meaning
use Rattle.file_session.specs.OneFile.{Meaning, Reads, Ends}

abbrev pub seen : TheMeaning → Meaning
seen (meaning.Reads txid count) = Reads txid count
seen (meaning.Ends status) = Ends status

-- a Read has a transaction id
abbrev pub HasTxid : TheMeaning → Type 0
HasTxid (meaning.Reads txid count) = 0 < txid
HasTxid (meaning.Ends status) = Unit {0}
