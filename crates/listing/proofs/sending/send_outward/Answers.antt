-- A short buffer is refused; else the copy is sent, or words.
use Rattle.listing.proofs.OutwardLaws.{short, short_line, sent_all, words_laid}
use Rattle.listing.proofs.sending.send_outward.Goals as goal
use Rattle.listing.proofs.sending.send_outward.Goals.{then-out-lt-COPY_ROOM-via-then-out-lt-COPY_ROOM, then-out-lt-COPY_ROOM-via-else-out-lt-COPY_ROOM+then-line-lt-LINE_ROOM}

pub returns-then-out-lt-COPY_ROOM-clause-line_after : goal.returns-then-out-lt-COPY_ROOM-clause-line_after
returns-then-out-lt-COPY_ROOM-clause-line_after c =
    let a = c.args in
    elim c.then-out-lt-COPY_ROOM.branch [
      | then-out-lt-COPY_ROOM-via-then-out-lt-COPY_ROOM w ↦ short a.s.now a.out.now a.line.now w.if-out-lt-COPY_ROOM.true
      | then-out-lt-COPY_ROOM-via-else-out-lt-COPY_ROOM+then-line-lt-LINE_ROOM w ↦ short_line a.s.now a.out.now a.line.now w.if-out-lt-COPY_ROOM.false w.if-line-lt-LINE_ROOM.true
    ]

pub returns-in-Ok-clause-line_after : goal.returns-in-Ok-clause-line_after
returns-in-Ok-clause-line_after c =
    let a = c.args in
    (sent_all a.s.now a.out.now a.line.now c.if-out-lt-COPY_ROOM.false c.if-line-lt-LINE_ROOM.false (c.in-Ok.ensures.done a.line.now)).0

pub returns-in-Ok-clause-copy_in_bounds : goal.returns-in-Ok-clause-copy_in_bounds
returns-in-Ok-clause-copy_in_bounds c =
    let a = c.args in
    (sent_all a.s.now a.out.now a.line.now c.if-out-lt-COPY_ROOM.false c.if-line-lt-LINE_ROOM.false (c.in-Ok.ensures.done a.line.now)).1.0

pub returns-in-Ok-clause-copy_value : goal.returns-in-Ok-clause-copy_value
returns-in-Ok-clause-copy_value c =
    let a = c.args in
    (sent_all a.s.now a.out.now a.line.now c.if-out-lt-COPY_ROOM.false c.if-line-lt-LINE_ROOM.false (c.in-Ok.ensures.done a.line.now)).1.1.0

pub returns-in-Err-clause-line_after : goal.returns-in-Err-clause-line_after
returns-in-Err-clause-line_after c =
    let a = c.args in
    let r = c.in-Err.ensures.refused in
    let words = words_laid a.s.now a.out.now a.line.now r.0 c.send_words.ensures.value c.send_words.ensures.line_after in
    rw r.1 (sent_all a.s.now a.out.now a.line.now c.if-out-lt-COPY_ROOM.false c.if-line-lt-LINE_ROOM.false words).0
