-- The bytes of a word tell its verb.
use Rattle.std.proofs.Common.{◌≡◌, codes, arith, rules, refl}
use Rattle.std.proofs.lemmas.Slice.Eq.{text_from_reads}
use Rattle.vfs_script.specs.Lines.{verb_of}
use Rattle.vfs_script.proofs.verbs.verb_of.Goals as goal

pub returns-in-clone : goal.returns-in-clone
unfolding verb_of
returns-in-clone c =
    let same : c.args.word.now ≡ codes "clone" = text_from_reads c.args.word.now (codes "clone") (omega arith) (search rules) in
    rw same refl

pub returns-in-close : goal.returns-in-close
unfolding verb_of
returns-in-close c =
    let same : c.args.word.now ≡ codes "close" = text_from_reads c.args.word.now (codes "close") (omega arith) (search rules) in
    rw same refl

pub returns-in-query : goal.returns-in-query
unfolding verb_of
returns-in-query c =
    let same : c.args.word.now ≡ codes "query" = text_from_reads c.args.word.now (codes "query") (omega arith) (search rules) in
    rw same refl

pub returns-in-token : goal.returns-in-token
unfolding verb_of
returns-in-token c =
    let same : c.args.word.now ≡ codes "token" = text_from_reads c.args.word.now (codes "token") (omega arith) (search rules) in
    rw same refl

pub returns-in-watch : goal.returns-in-watch
unfolding verb_of
returns-in-watch c =
    let same : c.args.word.now ≡ codes "watch" = text_from_reads c.args.word.now (codes "watch") (omega arith) (search rules) in
    rw same refl

pub returns-in-write : goal.returns-in-write
unfolding verb_of
returns-in-write c =
    let same : c.args.word.now ≡ codes "write" = text_from_reads c.args.word.now (codes "write") (omega arith) (search rules) in
    rw same refl

pub returns-in-rewind : goal.returns-in-rewind
unfolding verb_of
returns-in-rewind c =
    let same : c.args.word.now ≡ codes "rewind" = text_from_reads c.args.word.now (codes "rewind") (omega arith) (search rules) in
    rw same refl

pub returns-in-rename : goal.returns-in-rename
unfolding verb_of
returns-in-rename c =
    let same : c.args.word.now ≡ codes "rename" = text_from_reads c.args.word.now (codes "rename") (omega arith) (search rules) in
    rw same refl

pub returns-in-readat : goal.returns-in-readat
unfolding verb_of
returns-in-readat c =
    let same : c.args.word.now ≡ codes "readat" = text_from_reads c.args.word.now (codes "readat") (omega arith) (search rules) in
    rw same refl

pub returns-in-resize : goal.returns-in-resize
unfolding verb_of
returns-in-resize c =
    let same : c.args.word.now ≡ codes "resize" = text_from_reads c.args.word.now (codes "resize") (omega arith) (search rules) in
    rw same refl

pub returns-in-unlink : goal.returns-in-unlink
unfolding verb_of
returns-in-unlink c =
    let same : c.args.word.now ≡ codes "unlink" = text_from_reads c.args.word.now (codes "unlink") (omega arith) (search rules) in
    rw same refl

pub returns-in-hangup : goal.returns-in-hangup
unfolding verb_of
returns-in-hangup c =
    let same : c.args.word.now ≡ codes "hangup" = text_from_reads c.args.word.now (codes "hangup") (omega arith) (search rules) in
    rw same refl

pub returns-in-writeat : goal.returns-in-writeat
unfolding verb_of
returns-in-writeat c =
    let same : c.args.word.now ≡ codes "writeat" = text_from_reads c.args.word.now (codes "writeat") (omega arith) (search rules) in
    rw same refl

pub returns-in-attributes : goal.returns-in-attributes
unfolding verb_of
returns-in-attributes c =
    let same : c.args.word.now ≡ codes "attributes" = text_from_reads c.args.word.now (codes "attributes") (omega arith) (search rules) in
    rw same refl
