-- `end_line` meets its contract: the line is turned at its place, which is one of the places, and answered.
use Rattle.std.proofs.Common.{refl, arith, rules}
use Rattle.records.specs.Zero.{zero_tx}
use Rattle.replay_core.specs.Turn.{place_in_below}
use Rattle.replay_core.specs.Feed.{held_in, reading}
use Rattle.replay_core.specs.FeedLaws.{within, end_state, end_puts}
use Rattle.replay_core.proofs.feed.Replay.end_line.Goals as goal

pub offset_bounds-self-p : goal.offset_bounds-self-p
offset_bounds-self-p c =
    let low = place_in_below (held_in c.args.self.now.held) c.line-line.ensures c.place_of-p.ensures in
    search rules

pub bounds-self-p : goal.bounds-self-p
bounds-self-p c = place_in_below (held_in c.args.self.now.held) c.line-line.ensures c.place_of-p.ensures

pub offset_bounds-self-p-2 : goal.offset_bounds-self-p-2
offset_bounds-self-p-2 c =
    let low = place_in_below (held_in c.args.self.now.held) c.line-line.ensures c.place_of-p.ensures in
    search rules

pub bounds-self-p-2 : goal.bounds-self-p-2
bounds-self-p-2 c = place_in_below (held_in c.args.self.now.held) c.line-line.ensures c.place_of-p.ensures

pub returns-clause-state : goal.returns-clause-state
returns-clause-state c =
    let r = c.args.self.now in
    let line = c.line-line.ensures in
    let low = place_in_below (held_in r.held) line c.place_of-p.ensures in
    end_state (reading r).desk (held_in r.held) r.lines c.turn-told.new.d c.turn-told.result line c.place_of-p.ensures
    (within r.txs c.place_of-p.result _ zero_tx (omega arith)) c.turn-told.ensures refl c.none-self.ensures

pub returns-clause-text : goal.returns-clause-text
returns-clause-text c =
    let r = c.args.self.now in
    let line = c.line-line.ensures in
    let low = place_in_below (held_in r.held) line c.place_of-p.ensures in
    end_puts (reading r).desk (held_in r.held) r.lines c.turn-told.new.d c.turn-told.result line c.place_of-p.ensures
    (within r.txs c.place_of-p.result _ zero_tx (omega arith)) c.turn-told.ensures refl c.put_answer.ensures
