mod SpotLaws
mod ExprLaws
mod StmtLaws
mod StopLaws
mod GuardLaws
mod NestLaws
mod RuleLaws
mod SiteLaws
