use Rattle.io_client.proofs.client.Client.hang_up.Goals as goal

pub returns-clause-frame : goal.returns-clause-frame
returns-clause-frame c = c.write_frame.ensures.written
