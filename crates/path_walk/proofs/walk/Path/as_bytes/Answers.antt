-- The text is that of the names that it has.
use Rattle.std.proofs.Common.{sym, ◌∙◌, ap, subst}
use Rattle.path_walk.specs.Paths.{IsPath, text_of}
use Rattle.path_walk.proofs.PathLemmas.{text_of-names_of, path_sound}
use Rattle.path_walk.proofs.walk.Path.as_bytes.Goals as goal

pub returns-clause-text : goal.returns-clause-text
returns-clause-text c = sym (text_of-names_of c.self.inside.text.now) ∙ ap text_of c.self.view_is

pub returns-clause-path : goal.returns-clause-path
returns-clause-path c =
    subst (IsPath c.self.inside.text.now) c.self.view_is (path_sound c.self.inside.text.now c.self.invariant.0)
