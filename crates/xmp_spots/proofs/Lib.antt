mod EarlyLaws
mod MeetingLaws
mod KeyLaws
mod NearestLaws
mod EnteringLaws
mod AskingLaws
mod BetweenLaws
mod ImageLaws
mod GatheredLaws
mod RaceLaws
mod CourseLaws
mod SummaryLaws
mod DeclareLaws
mod WriteLaws
mod PlaceLaws
pub mod AnswerLaws
