use Rattle.std.proofs.Common.{ap, ◌∙◌, refl}
use Rattle.numbered_log.proofs.Ordered.{all_past}
use Rattle.payload_pool.specs.Calls.{admitted}
use Rattle.payload_pool.proofs.object.PoolObject.apply.Goals as goal

pub take-requires-clause-tokens : goal.take-requires-clause-tokens
take-requires-clause-tokens c = c.requires.tokens _ refl

pub acquire-baton-requires-clause-tokens : goal.acquire-baton-requires-clause-tokens
acquire-baton-requires-clause-tokens c = c.requires.tokens _ refl

pub release-requires-clause-tokens : goal.release-requires-clause-tokens
release-requires-clause-tokens c = c.requires.tokens _ refl

pub stow-requires-clause-tokens : goal.stow-requires-clause-tokens
stow-requires-clause-tokens c = c.requires.tokens _ refl

pub take-requires-clause-past : goal.take-requires-clause-past
take-requires-clause-past c = λ is. let v = c.args.self.now in all_past v.log.events c.args.position (c.requires.admitted (ap (admitted v) c.in-Take.is ∙ is)).past

pub acquire-baton-requires-clause-past : goal.acquire-baton-requires-clause-past
acquire-baton-requires-clause-past c = λ is. let v = c.args.self.now in all_past v.log.events c.args.position (c.requires.admitted (ap (admitted v) c.in-Acquire.is ∙ is)).past

pub release-requires-clause-past : goal.release-requires-clause-past
release-requires-clause-past c = λ is. let v = c.args.self.now in all_past v.log.events c.args.position (c.requires.admitted (ap (admitted v) c.in-Release.is ∙ is)).past

pub stow-requires-clause-past : goal.stow-requires-clause-past
stow-requires-clause-past c = λ is. let v = c.args.self.now in all_past v.log.events c.args.position (c.requires.admitted (ap (admitted v) c.in-Stow.is ∙ is)).past
