use Rattle.vfs_program.proofs.WordLists.{one_item, two_items}
use Rattle.vfs_program.proofs.words.command_of.Goals as goal

pub returns-in-len1-clause-meant : goal.returns-in-len1-clause-meant
returns-in-len1-clause-meant c = rw (one_item _ _ c.in-len1.len_at_least c.in-len1.len_below c.only-item.is) c.command_of_one.ensures.meant

pub returns-in-len1-clause-none : goal.returns-in-len1-clause-none
returns-in-len1-clause-none c = rw (one_item _ _ c.in-len1.len_at_least c.in-len1.len_below c.only-item.is) c.command_of_one.ensures.none

pub returns-in-len2-clause-meant : goal.returns-in-len2-clause-meant
returns-in-len2-clause-meant c = rw (two_items _ _ _ c.in-len2.len_at_least c.in-len2.len_below c.first-item.is c.second-item.is) c.command_of_two.ensures.meant

pub returns-in-len2-clause-none : goal.returns-in-len2-clause-none
returns-in-len2-clause-none c = rw (two_items _ _ _ c.in-len2.len_at_least c.in-len2.len_below c.first-item.is c.second-item.is) c.command_of_two.ensures.none
