mod ObjectFormat
mod ObjectLaws
