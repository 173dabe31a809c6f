use Rattle.std.proofs.Common.{◌≡◌, Ok, rules}
use Rattle.client.proofs.Jobs.{any_job}
use Rattle.client.proofs.foresee.Goals as goal

-- what each call ensures, in their order
pub returns : goal.returns
returns g c =
    let found : c.find.result ≡ Ok c.in_ok-found.found = search rules in
    let again : c.find-2.result ≡ Ok c.in_ok-found-2.found = search rules in
    any_job g.K.Kind.ring g.S.Source.kind_of g.S.Source.list c.args.kind
    c.in_ok-open.open c.feed.new.self c.take_back.new.self c.draw.new.self c.take_back-refused.new.self c.reopen.result
    c.in_ok-found.found c.in_ok-found-2.found c.args.words.now c.feed.new.words c.draw.new.words c.args.word.now c.args.source.now c.draw.new.source c.args.m
    c.args.record.now.levels c.find.new.record.levels c.find-2.new.record.levels
    c.args.finding.now c.find.new.finding c.find-2.new.finding c.args.work.now c.find.new.work c.find-2.new.work
    c.in_ok-open.ensures c.in_ok-feed.ensures c.in_ok-take_back.ensures c.in_ok-draw.ensures
    c.take_back-refused.result c.take_back-refused.ensures (rw found at c.find.ensures) c.reopen.ensures (rw again at c.find-2.ensures)
    c.args.next.now c.run_on.new.buffer c.run_on.result c.run_on.ensures
