-- A line is taken as what it says is.
use Rattle.vfs_script.specs.Scripts.{spoken}
use Rattle.vfs_script.proofs.frames.Frames.take_line.Goals as goal

pub returns-in-Request : goal.returns-in-Request
unfolding spoken
returns-in-Request c = rw (c.in-Some.ensures.0, c.in-Request.is) c.ask.ensures

pub returns-in-Write : goal.returns-in-Write
unfolding spoken
returns-in-Write c = rw (c.in-Some.ensures.0, c.in-Write.is) c.write.ensures

pub returns-in-WriteAt : goal.returns-in-WriteAt
unfolding spoken
returns-in-WriteAt c = rw (c.in-Some.ensures.0, c.in-WriteAt.is) c.write_at.ensures

pub returns-in-Echo : goal.returns-in-Echo
unfolding spoken
returns-in-Echo c = rw (c.in-Some.ensures.0, c.in-Echo.is) c.echo.ensures

pub returns-in-Raw : goal.returns-in-Raw
unfolding spoken
returns-in-Raw c = rw (c.in-Some.ensures.0, c.in-Raw.is) c.send_raw.ensures

pub returns-in-Turn : goal.returns-in-Turn
unfolding spoken
returns-in-Turn c = rw (c.in-Some.ensures.0, c.in-Turn.is) c.put_turn.ensures
