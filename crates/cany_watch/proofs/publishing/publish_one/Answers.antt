use Rattle.std.proofs.Common.{◌≡◌, ◌∙◌}
use Rattle.cany_watch.proofs.PublishFacts.{one_at, publisher_of}
use Rattle.cany_watch.proofs.publishing.publish_one.Goals as goal

pub publish_line-requires-clause-taken : goal.publish_line-requires-clause-taken
publish_line-requires-clause-taken g c =
    let at : c.from-i.result ≡ c.args.node = c.from-i.ensures ∙ c.get.ensures.value in
    (publisher_of c.args.world.now c.args.publishers.now c.from-i.result c.args.node c.index-publishers-i.result at c.requires.are c.requires.node).taken

pub publish_line-requires-clause-shown : goal.publish_line-requires-clause-shown
publish_line-requires-clause-shown g c =
    let at : c.from-i.result ≡ c.args.node = c.from-i.ensures ∙ c.get.ensures.value in
    (publisher_of c.args.world.now c.args.publishers.now c.from-i.result c.args.node c.index-publishers-i.result at c.requires.are c.requires.node).shown

pub returns : goal.returns
returns g c =
    let at : c.from-i.result ≡ c.args.node = c.from-i.ensures ∙ c.get.ensures.value in
    one_at c.publish_line.result c.args.world.now c.from-i.result c.args.node c.args.publishers.now c.index-publishers-i.result c.publish_line.new.publisher at
    c.requires.are c.requires.node c.requires.others c.publish_line.ensures
